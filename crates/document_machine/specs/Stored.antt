-- How a proof stores what is built and what a machine holds: as the tuple of its parts.
use Rattle.std.specs.Prelude.{ℕ, List, Option, refl}
use Rattle.std.specs.Coded.{Coded, code_by, coded×, coded_list, coded_option, coded_ℕ}
use Rattle.dom_forest.specs.Edits.{DomState}
use Rattle.dom_forest.specs.Stored.{numbered_code}
use Rattle.fizz_instructions.specs.declared.instruction.SentFunctions.{SentFunctions}
use Rattle.fizz_instructions.specs.contracts.instruction.SentFunctions.{the_row as sent_row}
use Rattle.document_machine.specs.declared.building.OpenElement.{OpenElement}
use Rattle.document_machine.specs.contracts.building.OpenElement.{the_row as open_row}
use Rattle.html_read.specs.Reading.{ReaderState}
use Rattle.html_read.specs.declared.fault.ReadKind.{ReadKind}
use Rattle.html_read.specs.contracts.fault.ReadKind.{the_row as kind_row}
use Rattle.document_machine.specs.declared.stop.Stop.{Stop}
use Rattle.document_machine.specs.contracts.stop.Stop.{the_row as stop_row}
use Rattle.document_machine.specs.MachineState.{MachineState}
use Rattle.document_machine.specs.Running.{PageState}

abbrev pub building_code : Coded PageState
building_code =
    code_by (DomState × (List OpenElement × SentFunctions)) (coded× numbered_code (coded× (coded_list open_row.coded) sent_row.coded))
    (λ b. (b.dom, (b.opened, b.known))) (λ p. record { dom = p.0; opened = p.1.0; known = p.1.1 }) (λ _. refl)

abbrev pub held_code : Coded ReaderState
held_code =
    code_by (List ℕ × (ℕ × Option (ℕ × ReadKind))) (coded× (coded_list coded_ℕ) (coded× coded_ℕ (coded_option (coded× coded_ℕ kind_row.coded))))
    (λ h. (h.rest, (h.place, h.fault))) (λ p. record { rest = p.0; place = p.1.0; fault = p.1.1 }) (λ _. refl)

abbrev pub holding_code : Coded MachineState
holding_code =
    code_by (List ℕ × (ReaderState × (PageState × Stop))) (coded× (coded_list coded_ℕ) (coded× held_code (coded× building_code stop_row.coded)))
    (λ m. (m.prefix, (m.reader, (m.built, m.stop)))) (λ p. record { prefix = p.0; reader = p.1.0; built = p.1.1.0; stop = p.1.1.1 }) (λ _. refl)
