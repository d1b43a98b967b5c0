use Rattle.std.proofs.Common.{◌≡◌, ◌+◌, ◌-◌, ◌<◌, ◌≤◌, ◌∷◌, List, ℕ, Option, IfSome, length, take, drop, decimal, sym, ap, ◌∙◌, subst, arith, append-nil, take_all}
use Rattle.std.specs.Option.{unwrap_or}
use Rattle.std.proofs.lemmas.Fmt.{length-decimal-le}
use Rattle.std.proofs.lemmas.List.{length-drop}
use Rattle.book_words.specs.declared.name.Name.{Name}
use Rattle.book_words.specs.Names.{bytes_of, name_of}
use Rattle.trial_run.specs.TrialScripts.{trial_product}
use Rattle.trial_run.proofs.TrialNames.{byte_before}
use Rattle.trial_run.proofs.names.batch_name.Goals as goal

pub write_digits-digits-requires : goal.write_digits-digits-requires
write_digits-digits-requires c =
    let few : length (decimal c.from.result) ≤ 10 = length-decimal-le 10 c.from.result
    (omega arith) (omega (arith, c.from.ensures, c.requires.room))
    (omega (arith, c.from.ensures, c.requires.room)) in
    (omega (arith, few), omega arith)

pub overflow_sub-digits : goal.overflow_sub-digits
overflow_sub-digits c =
    let few : length (decimal c.from.result) ≤ 10 = length-decimal-le 10 c.from.result
    (omega arith) (omega (arith, c.from.ensures, c.requires.room))
    (omega (arith, c.from.ensures, c.requires.room)) in
    omega (arith, few, c.write_digits-digits.ensures.start)

pub returns-clause-name : goal.returns-clause-name
returns-clause-name c =
    let buf = c.write_digits-digits.new.buf in
    let digits = c.write_digits-digits.result in
    let told = c.write_digits-digits.ensures in
    let few : length (decimal c.from.result) ≤ 10 = length-decimal-le 10 c.from.result
    (omega arith) (omega (arith, c.from.ensures, c.requires.room))
    (omega (arith, c.from.ensures, c.requires.room)) in
    let some : 0 < digits = omega (arith, few, told.start) in
    let most : digits ≤ 32 = omega (arith, told.start) in
    let long : length buf ≡ 32 = c.write_digits-digits.auto.buf in
    let back : drop digits buf ≡ decimal (c.args.place + 1) = told.written
    ∙ append-nil (decimal c.from.result) ∙ ap decimal c.from.ensures in
    let text : take (32 - (digits - 1)) (drop (digits - 1) buf)
    ≡ 84 ∷ decimal (c.args.place + 1) =
    take_all (32 - (digits - 1)) (drop (digits - 1) buf)
    (omega (arith, long, length-drop (digits - 1) buf))
    ∙ byte_before buf (decimal (c.args.place + 1)) 32 digits 84 some most told.before back in
    ap (λ (o : Option Name). unwrap_or o trial_product)
    (sym c.unwrap.ensures ∙ c.new.ensures.value ∙ ap (λ (bytes : List ℕ). name_of bytes) text)

pub returns-clause-bytes : goal.returns-clause-bytes
returns-clause-bytes c =
    let buf = c.write_digits-digits.new.buf in
    let digits = c.write_digits-digits.result in
    let told = c.write_digits-digits.ensures in
    let few : length (decimal c.from.result) ≤ 10 = length-decimal-le 10 c.from.result
    (omega arith) (omega (arith, c.from.ensures, c.requires.room))
    (omega (arith, c.from.ensures, c.requires.room)) in
    let some : 0 < digits = omega (arith, few, told.start) in
    let most : digits ≤ 32 = omega (arith, told.start) in
    let long : length buf ≡ 32 = c.write_digits-digits.auto.buf in
    let back : drop digits buf ≡ decimal (c.args.place + 1) = told.written
    ∙ append-nil (decimal c.from.result) ∙ ap decimal c.from.ensures in
    let text : take (32 - (digits - 1)) (drop (digits - 1) buf)
    ≡ 84 ∷ decimal (c.args.place + 1) =
    take_all (32 - (digits - 1)) (drop (digits - 1) buf)
    (omega (arith, long, length-drop (digits - 1) buf))
    ∙ byte_before buf (decimal (c.args.place + 1)) 32 digits 84 some most told.before back in
    let made : bytes_of c.unwrap.result ≡ take (32 - (digits - 1)) (drop (digits - 1) buf) =
    subst (λ (o : Option Name). IfSome o (λ (name : Name). bytes_of name
    ≡ take (32 - (digits - 1)) (drop (digits - 1) buf))) c.unwrap.ensures
    c.new.ensures.bytes in
    made ∙ text
