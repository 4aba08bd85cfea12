-- The signs of the code's tables as rows.
use Rattle.jsx_lex.specs.SignTable.{SignRow, row}
use Rattle.jsx_lex.specs.declared.sign.Sign.{Sign}

abbrev pub row_of : Sign → SignRow
row_of sign = row sign.bytes.now sign.change
