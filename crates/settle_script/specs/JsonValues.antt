-- The value that JSON is, and the first place at which JSON is no value (RFC 8259). A number is what `serde_json` reads:
-- an unsigned or a negative whole number, or a float, which is any number that isn't whole or has more than 64 bits.
use Rattle.std.specs.Prelude.{◌≡◌, ℕ, ◌+◌, ◌^◌, min, ℤ, pos, List, [], ◌∷◌, if◌then◌else◌, nat_lt, Option, Some, None, Result, Ok, Err}
use Rattle.serde_json.specs.Data.{Num, unsigned, negative, float, Data, null, boolean, number, string, array, object, Items, no_items, item, Members, no_members, member}
use Rattle.settle_script.specs.declared.value.Value.{Value}
use Rattle.settle_script.specs.declared.value.Value.TheVariants.{Null, Bool as Truth, Int, Text, List as Values, Record as Fields}
use Rattle.settle_script.specs.declared.value.Entry.{Entry}
use Rattle.settle_script.specs.declared.fault.ValueFault.{ValueFault}
use Rattle.settle_script.specs.declared.fault.ValueFault.TheVariants.{Float, IntRange, Deep, OutOfMemory}

-- a whole number; a float, which is no value, stands as 0
abbrev pub whole_of : Num → ℤ
whole_of (unsigned n) = pos n
whole_of (negative z) = z
whole_of (float x) = pos 0

-- the value, where no place is bad
abbrev mutual
  pub value_of : Data → Value
  value_of null = Null
  value_of (boolean b) = Truth b
  value_of (number n) = Int (whole_of n)
  value_of (string s) = Text s
  value_of (array ds) = Values (values_of ds)
  value_of (object ms) = Fields (fields_of ms)

  pub values_of : Items → List Value
  values_of no_items = []
  values_of (item d ds) = value_of d ∷ values_of ds

  pub fields_of : Members → List (Entry Value)
  fields_of no_members = []
  fields_of (member name d ms) = record { name = name; value = value_of d } ∷ fields_of ms

-- the number of an item or a member in a path
abbrev pub step : ℕ → ℕ
step n = min n 4294967295

-- a fault as it is seen from one list or record further out, where it lies at this step
abbrev pub inside : ℕ → ValueFault → ValueFault
inside at (Float path) = Float (at ∷ path)
inside at (IntRange path) = IntRange (at ∷ path)
inside at (Deep path) = Deep (at ∷ path)
inside at OutOfMemory = OutOfMemory

-- the fault of the item or member of this number, or else that of the later ones
abbrev pub first_of_two : ℕ → Option ValueFault → Option ValueFault → Option ValueFault
first_of_two n (Some fault) later = Some (inside (step n) fault)
first_of_two n None later = later

-- nothing lies in more than 100 lists and records
abbrev pub unless_deep : ℕ → Option ValueFault → Option ValueFault
unless_deep depth fault = if nat_lt 100 depth then Some (Deep []) else fault

-- a number is whole and an i64
abbrev pub bad_number : Num → Option ValueFault
bad_number (unsigned n) = if nat_lt n (2 ^ 63) then None else Some (IntRange [])
bad_number (negative z) = None
bad_number (float x) = Some (Float [])

-- the first place of what lies in `depth` lists and records that is no value
abbrev mutual
  pub first_bad : ℕ → Data → Option ValueFault
  first_bad depth null = unless_deep depth None
  first_bad depth (boolean b) = unless_deep depth None
  first_bad depth (number n) = unless_deep depth (bad_number n)
  first_bad depth (string s) = unless_deep depth None
  first_bad depth (array ds) = unless_deep depth (first_bad_item (depth + 1) 0 ds)
  first_bad depth (object ms) = unless_deep depth (first_bad_member (depth + 1) 0 ms)

  pub first_bad_item : ℕ → ℕ → Items → Option ValueFault
  first_bad_item depth n no_items = None
  first_bad_item depth n (item d ds) = first_of_two n (first_bad depth d) (first_bad_item depth (n + 1) ds)

  pub first_bad_member : ℕ → ℕ → Members → Option ValueFault
  first_bad_member depth n no_members = None
  first_bad_member depth n (member name d ms) =
      first_of_two n (first_bad depth d) (first_bad_member depth (n + 1) ms)

-- the fault is that of the first bad place; want of memory has no cause
abbrev pub IsFaultOf : ValueFault → Option ValueFault → Type 0
IsFaultOf OutOfMemory bad = Unit {0}
IsFaultOf (Float path) bad = bad ≡ Some (Float path)
IsFaultOf (IntRange path) bad = bad ≡ Some (IntRange path)
IsFaultOf (Deep path) bad = bad ≡ Some (Deep path)

-- for private functions: what is read is the value, and no place is bad; or the fault is that of the first bad place
abbrev pub Reads : {A : Type 0} → Result A ValueFault → A → Option ValueFault → Type 0
Reads (Ok given) value bad = (given ≡ value) × (bad ≡ None)
Reads (Err fault) value bad = IsFaultOf fault bad

-- for private functions: the same fault, one list or record further out
abbrev pub IsInside : ℕ → ValueFault → ValueFault → Type 0
IsInside at fault OutOfMemory = Unit {0}
IsInside at fault (Float path) = inside at fault ≡ Float path
IsInside at fault (IntRange path) = inside at fault ≡ IntRange path
IsInside at fault (Deep path) = inside at fault ≡ Deep path
