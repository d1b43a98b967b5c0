-- A book's error, as a caller is told it.
use Rattle.book_words.specs.declared.caller.AskError.{AskError}
use Rattle.book_words.specs.declared.caller.AskError.TheVariants as asks
use Rattle.book_core.specs.declared.types.BookError.{BookError}
use Rattle.book_core.specs.declared.types.BookError.TheVariants as error

abbrev pub ask_error : BookError → AskError
ask_error (error.Refused refused) = asks.Refused refused
ask_error error.NoMemory = asks.NoMemory
