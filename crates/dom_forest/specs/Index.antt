-- Which nodes have which `id`, by an index that may know of more than there are.
use Rattle.std.specs.Prelude.{◌≡◌, ℕ, ◌+◌, ◌++◌, ◌==◌, ◌&&◌, ◌||◌, nat_lt, if◌then◌else◌, Bool, true, false, List, [], ◌∷◌, String, Option, Some, None, is_some, not, length}
use Rattle.std.specs.BTreeMap.{BTreeMap, get_by_text}
use Rattle.std.specs.declared.alloc.Global.{Global}
use Rattle.dom_forest.specs.declared.chain.Slot.{Slot}
use Rattle.dom_forest.specs.declared.entry.Entry.{Entry}
use Rattle.dom_forest.specs.declared.ids.Holder.{Holder}
use Rattle.dom_forest.specs.declared.ids.Holder.TheVariants.{One, Many}
use Rattle.dom_forest.specs.declared.node.NewNode.{NewNode}
use Rattle.dom_forest.specs.Chain.{slot_at}
use Rattle.dom_forest.specs.Flat.{renumbered_entries}
use Rattle.dom_forest.specs.Forest.{Forest, empty, tree}
use Rattle.dom_forest.specs.Ids.{has_id}

-- What an index knows of ids.
abbrev pub Known : Type 0
Known = List ℕ → Option Holder

-- The node was given out and removed.
abbrev pub is_gone : ℕ → List (Option Slot) → Bool
is_gone id slots = nat_lt id (length slots) && not (is_some (slot_at slots id))

-- What is known of an id after one more node has it.
abbrev pub holder_with : List (Option Slot) → ℕ → Option Holder → Holder
holder_with slots node None = One node
holder_with slots node (Some (One other)) = if other == node || is_gone other slots then One node else Many
holder_with slots node (Some Many) = Many

-- The node is the one that is known, or one of many.
abbrev pub LeadsTo : Option Holder → ℕ → Type 0
LeadsTo None node = ⊥
LeadsTo (Some (One other)) node = node ≡ other
LeadsTo (Some Many) node = Unit {0}

abbrev pub KnowsNode : Known → ℕ → NewNode → Type 0
KnowsNode known node content = (id : List ℕ) → has_id id content ≡ true → LeadsTo (known id) node

-- Each element of the forest is known by each of its ids.
abbrev pub KnowsAll : Known → Forest → Type 0
KnowsAll known empty = Unit {0}
KnowsAll known (tree i content kids later) = KnowsNode known i content × KnowsAll known kids × KnowsAll known later

abbrev pub KnowsEntries : Known → List Entry → Type 0
KnowsEntries known [] = Unit {0}
KnowsEntries known (e ∷ es) = KnowsNode known e.id e.node × KnowsEntries known es

-- What an index knows; without one, each id may have many.
abbrev pub known_by : Option (BTreeMap (String Global) Holder) → Known
known_by None id = Some Many
known_by (Some holders) id = get_by_text holders id

-- The index knows all; nothing is asked where there is none.
abbrev pub IsIndexOf : Option (BTreeMap (String Global) Holder) → Forest → Type 0
IsIndexOf None forest = Unit {0}
IsIndexOf (Some holders) forest = KnowsAll (get_by_text holders) forest

-- What was known of nodes that aren't gone stays known.
abbrev pub StaysKnown : List (Option Slot) → Known → Known → Type 0
StaysKnown slots old new = (id : List ℕ) (node : ℕ) → is_gone node slots ≡ false → LeadsTo (old id) node → LeadsTo (new id) node

abbrev pub is_content : (NewNode → Bool) → Option NewNode → Bool
is_content test None = false
is_content test (Some content) = test content

-- Of these entries the first ones were noted under the next ids, and the rest are to come.
pub record HasNoted (entries rest : List Entry) (next id : ℕ) (found : Known) : Type 0 where
  pub done : List Entry
  pub all : entries ≡ done ++ rest
  pub place : id ≡ next + length done
  pub known : KnowsEntries found (renumbered_entries next done)
