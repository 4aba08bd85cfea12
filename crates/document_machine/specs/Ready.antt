-- What holds in a machine that goes on.
use Rattle.std.specs.Prelude.{◌≡◌, ℕ, ◌+◌, ◌<◌, ◌^◌, length}
use Rattle.html_read.specs.Reading.{ReaderState}
use Rattle.document_machine.specs.declared.stop.Stop.{Stop}
use Rattle.document_machine.specs.declared.stop.Stop.TheVariants.{GoesOn, Faulted, NoMemory}
use Rattle.document_machine.specs.Paths.{IsOpenDocument}
use Rattle.document_machine.specs.Running.{PageState, ids_of}

-- Its length is that of the bytes that were fed, and its open elements stand in its document.
pub record GoesWell (reader : ReaderState) (size : ℕ) (built : PageState) : Type 0 where
  pub counts : size ≡ reader.place + length reader.rest
  pub fits : size < 2 ^ 63
  pub document : IsOpenDocument (ids_of built.opened) built.dom

abbrev pub IsReady : ReaderState → ℕ → PageState → Stop → Type 0
IsReady reader size built GoesOn = GoesWell reader size built
IsReady reader size built (Faulted fault) = Unit {0}
IsReady reader size built NoMemory = Unit {0}
