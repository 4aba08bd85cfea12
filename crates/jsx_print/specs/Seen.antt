-- The code's parts of trees, as the definitions have them. This is for private functions.
use Rattle.jsx_syntax.specs.declared.name.Name.{Name}
use Rattle.jsx_syntax.specs.declared.name.Entry.{Entry}
use Rattle.jsx_syntax.specs.declared.node.Node.{Node}
use Rattle.jsx_print.specs.Printing.{Printed, printed_node}

abbrev pub printed_value : Name → Node → Entry Printed
printed_value name value = record { name = name; value = printed_node value }

abbrev pub printed_entry : Entry Node → Entry Printed
printed_entry entry = printed_value entry.name entry.value
