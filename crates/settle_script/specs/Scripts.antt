-- Settling scripts: a script is a JSON array, and each of its lines an object with exactly the members of one form:
--   {"resolve": name, "value": value}    the resource is resolved with the value
--   {"reject": name, "digest": digest}   the resource is rejected
--   {"work": count}                      so many tasks are done; 0 stands for all
--   {"flush": budget}                    at most so many bytes are flushed; 0 stands for no limit
-- Names and digests are strings, counts and budgets whole numbers below 2^32. Lines are numbered from 0. Objects have
-- their members in ascending order of names here, each name once.
use Rattle.std.specs.Prelude.{◌≡◌, ℕ, ◌+◌, ◌^◌, min, List, [], ◌∷◌, ◌++◌, length, codes, ◌&&◌, if◌then◌else◌, nat_lt, position, filter_map, IsUtf8, Bool, false, Option, Some, None, Result, Ok, Err}
use Rattle.std.specs.Str.{bytes_eq}
use Rattle.serde_json.specs.Data.{unsigned, Data, number, string, array, object, Items, no_items, item, no_members, member}
use Rattle.serde_json.specs.Read.{read}
use Rattle.settle_script.specs.JsonValues.{value_of, first_bad}
use Rattle.settle_script.specs.declared.value.Entry.{Entry}
use Rattle.settle_script.specs.declared.value.Value.{Value}
use Rattle.settle_script.specs.declared.outcome.Outcome.{Outcome}
use Rattle.settle_script.specs.declared.outcome.Outcome.TheVariants.{Resolved, Rejected}
use Rattle.settle_script.specs.declared.event.Event.{Event}
use Rattle.settle_script.specs.declared.event.Event.TheVariants.{Resolve, Reject, Work, Flush}
use Rattle.settle_script.specs.declared.fault.ValueFault.{ValueFault}
use Rattle.settle_script.specs.declared.fault.ScriptFault.{ScriptFault}
use Rattle.settle_script.specs.declared.fault.ScriptFault.TheVariants.{NotJson, TooManyEvents, NotEvent, DigestTooLong, BadValue, SettledTwice, OutOfMemory}

-- what a line settles: the name and what the resource comes to
abbrev pub settlement_of : Event → Option (Entry Outcome)
settlement_of (Resolve name value) = Some (record { name = name; value = Resolved value })
settlement_of (Reject name digest) = Some (record { name = name; value = Rejected digest })
settlement_of (Work count) = None
settlement_of (Flush budget) = None

-- the settlements of a script in the order of its lines
abbrev pub outcomes_of : List Event → List (Entry Outcome)
outcomes_of events = filter_map settlement_of events

-- the name that a line settles
abbrev pub settled_name : Event → Option (List ℕ)
settled_name (Resolve name value) = Some name
settled_name (Reject name digest) = Some name
settled_name (Work count) = None
settled_name (Flush budget) = None

abbrev pub is_name : List ℕ → Option (List ℕ) → Bool
is_name name (Some other) = bytes_eq name other
is_name name None = false

-- the number of the first line that settles the name
abbrev pub first_settling : List ℕ → List Event → Option ℕ
first_settling name events = position (λ event. is_name name (settled_name event)) events

-- the event of a line whose value or digest has a fault, or none
abbrev pub resolve_event : ℕ → List ℕ → Value → Option ValueFault → Result Event ScriptFault
resolve_event index name value None = Ok (Resolve name value)
resolve_event index name value (Some fault) = Err (BadValue index)

abbrev pub resolve_line : ℕ → Data → Data → Result Event ScriptFault
resolve_line index (string name) value = resolve_event index name (value_of value) (first_bad 0 value)
resolve_line index name value = Err (NotEvent index)

abbrev pub reject_event : ℕ → List ℕ → Data → Result Event ScriptFault
reject_event index name (string digest) =
    if nat_lt 1024 (length digest) then Err (DigestTooLong index (length digest)) else Ok (Reject name digest)
reject_event index name digest = Err (NotEvent index)

abbrev pub reject_line : ℕ → Data → Data → Result Event ScriptFault
reject_line index (string name) digest = reject_event index name digest
reject_line index name digest = Err (NotEvent index)

-- a whole number below 2^32
abbrev pub count_of : Data → Option ℕ
count_of (number (unsigned n)) = if nat_lt n (2 ^ 32) then Some n else None
count_of other = None

abbrev pub count_event : ℕ → (ℕ → Event) → Option ℕ → Result Event ScriptFault
count_event index event (Some n) = Ok (event n)
count_event index event None = Err (NotEvent index)

-- a line with one member
abbrev pub line_of_one : ℕ → List ℕ → Data → Result Event ScriptFault
line_of_one index name value =
    if bytes_eq name (codes "work") then count_event index Work (count_of value)
    else (if bytes_eq name (codes "flush") then count_event index Flush (count_of value) else Err (NotEvent index))

-- a line with two members
abbrev pub line_of_two : ℕ → List ℕ → Data → List ℕ → Data → Result Event ScriptFault
line_of_two index first one second other =
    if bytes_eq first (codes "resolve") && bytes_eq second (codes "value") then resolve_line index one other
    else (if bytes_eq first (codes "digest") && bytes_eq second (codes "reject") then reject_line index other one
    else Err (NotEvent index))

-- a line by itself
abbrev pub line_of : ℕ → Data → Result Event ScriptFault
line_of index (object (member name value no_members)) = line_of_one index name value
line_of index (object (member first one (member second other no_members))) =
    line_of_two index first one second other
line_of index line = Err (NotEvent index)

-- a line settles no name that an earlier one has settled
abbrev pub unless_settled : ℕ → Event → Option ℕ → Result Event ScriptFault
unless_settled index event None = Ok event
unless_settled index event (Some first) = Err (SettledTwice index first)

abbrev pub settled_before : Option (List ℕ) → List Event → Option ℕ
settled_before (Some name) events = first_settling name events
settled_before None events = None

-- the event of a line that stands behind these
abbrev pub event_after : List Event → Result Event ScriptFault → Result Event ScriptFault
event_after events (Ok event) = unless_settled (length events) event (settled_before (settled_name event) events)
event_after events (Err fault) = Err fault

abbrev pub next_event : List Event → Data → Result Event ScriptFault
next_event events line = event_after events (line_of (length events) line)

-- `r.and_then(f)`
abbrev pub result_and_then : {A B E : Type 0} → (A → Result B E) → Result A E → Result B E
result_and_then f (Ok x) = f x
result_and_then f (Err e) = Err e

-- the events of lines that stand behind these, or the first fault
abbrev pub events_of : List Event → Items → Result (List Event) ScriptFault
events_of events no_items = Ok events
events_of events (item line later) =
    result_and_then (λ event. events_of (events ++ event ∷ []) later) (next_event events line)

abbrev pub line_count : Items → ℕ
line_count no_items = 0
line_count (item line later) = 1 + line_count later

-- the script that JSON is
abbrev pub script_of : Option Data → Result (List Event) ScriptFault
script_of (Some (array lines)) =
    if nat_lt 65536 (line_count lines) then Err (TooManyEvents (min (line_count lines) 4294967295))
    else events_of [] lines
script_of json = Err NotJson

-- the bytes are a text, and it is the script
pub record IsScript (bytes : List ℕ) (events : List Event) : Type 0 where
  pub text : IsUtf8 bytes
  pub lines : script_of (read bytes) ≡ Ok events

-- the fault is that of the bytes: they are no text, or the text has it; want of memory has no cause
abbrev pub IsFaultOf : List ℕ → ScriptFault → Type 0
IsFaultOf bytes OutOfMemory = Unit {0}
IsFaultOf bytes NotJson = IsUtf8 bytes → script_of (read bytes) ≡ Err NotJson
IsFaultOf bytes (TooManyEvents count) = IsUtf8 bytes × (script_of (read bytes) ≡ Err (TooManyEvents count))
IsFaultOf bytes (NotEvent index) = IsUtf8 bytes × (script_of (read bytes) ≡ Err (NotEvent index))
IsFaultOf bytes (DigestTooLong index len) = IsUtf8 bytes × (script_of (read bytes) ≡ Err (DigestTooLong index len))
IsFaultOf bytes (BadValue index) = IsUtf8 bytes × (script_of (read bytes) ≡ Err (BadValue index))
IsFaultOf bytes (SettledTwice index first) =
    IsUtf8 bytes × (script_of (read bytes) ≡ Err (SettledTwice index first))

-- for private functions: the answer is this one, or memory was wanting
abbrev pub Refuses : {A : Type 0} → ScriptFault → Result A ScriptFault → Type 0
Refuses OutOfMemory wanted = Unit {0}
Refuses NotJson wanted = wanted ≡ Err NotJson
Refuses (TooManyEvents count) wanted = wanted ≡ Err (TooManyEvents count)
Refuses (NotEvent index) wanted = wanted ≡ Err (NotEvent index)
Refuses (DigestTooLong index len) wanted = wanted ≡ Err (DigestTooLong index len)
Refuses (BadValue index) wanted = wanted ≡ Err (BadValue index)
Refuses (SettledTwice index first) wanted = wanted ≡ Err (SettledTwice index first)

abbrev pub Answers : {A : Type 0} → Result A ScriptFault → Result A ScriptFault → Type 0
Answers (Ok given) wanted = wanted ≡ Ok given
Answers (Err fault) wanted = Refuses fault wanted
