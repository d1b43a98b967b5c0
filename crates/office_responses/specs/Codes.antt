-- The code of a status as a head has it.
use Rattle.std.specs.Prelude.{ℕ, List, [], ◌++◌, codes, unwrap_or}
use Rattle.http.specs.StatusCode.{code_digits, reason_phrase}

-- its digits and its phrase
abbrev pub code_text : ℕ → List ℕ
code_text code = code_digits code ++ codes " " ++ unwrap_or (reason_phrase code) []
