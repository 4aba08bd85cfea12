-- What the code's values stand for.
use Rattle.settle_script.specs.declared.value.Value.{Value}
use Rattle.settle_script.specs.declared.value.Value.TheVariants as v
use Rattle.settle_script.specs.declared.value.Value.TheOpen.{Value-F}
use Rattle.jsx_value.specs.declared.val.Kind.{Kind}
use Rattle.jsx_value.specs.declared.val.Kind.TheVariants as k
use Rattle.jsx_value.specs.declared.val.Face.{Face}
use Rattle.jsx_value.specs.declared.val.Face.TheVariants as f

-- the value, wherever it comes from
abbrev pub seen : Kind → Value
seen (k.Given value) = value.now
seen (k.Written text) = v.Text text.now
seen k.Null = v.Null
seen (k.Bool b) = v.Bool b
seen (k.Int n) = v.Int n
seen (k.Made text) = v.Text text

-- one level of it
abbrev pub layer_of : Face → Value-F Value
layer_of f.Null = Value-F.Null
layer_of (f.Bool b) = Value-F.Bool b
layer_of (f.Int n) = Value-F.Int n
layer_of (f.Text text) = Value-F.Text text.now
layer_of (f.List items) = Value-F.List items.now
layer_of (f.Record members) = Value-F.Record members.now
