-- Neighbours of a node among the entries before and after it.
use Rattle.std.specs.Prelude.{ℕ, Bool, ◌==◌, nat_lt, if◌then◌else◌, List, [], ◌∷◌, Option, Some, None}
use Rattle.dom_forest.specs.declared.entry.Entry.{Entry}
use Rattle.dom_forest.specs.Boundary.{searched_past, turn_of}

-- A run over entries that keeps an id.
abbrev pub id_after : (Entry → Option ℕ → Option ℕ) → Option ℕ → List Entry → Option ℕ
id_after step id [] = id
id_after step id (e ∷ es) = id_after step (step e id) es

-- The parent: the last entry that is less deep.
abbrev pub parent_step : ℕ → Entry → Option ℕ → Option ℕ
parent_step depth e id = if nat_lt e.depth depth then Some e.id else id

-- The previous sibling: the last entry at the depth, if none less deep follows it.
abbrev pub previous_step : ℕ → Entry → Option ℕ → Option ℕ
previous_step depth e id = if e.depth == depth then Some e.id else if nat_lt e.depth depth then None else id

abbrev pub below_at : ℕ → Entry → Bool
below_at depth e = nat_lt depth e.depth

-- The first entry, if it stands at the depth.
abbrev pub level_id : ℕ → List Entry → Option ℕ
level_id depth [] = None
level_id depth (e ∷ es) = if e.depth == depth then Some e.id else None

-- The first entry, if it stands deeper.
abbrev pub deeper_id : ℕ → List Entry → Option ℕ
deeper_id depth [] = None
deeper_id depth (e ∷ es) = if nat_lt depth e.depth then Some e.id else None

-- The `/$` among the siblings at the depth that begin the entries, in which `inner` boundaries more are open.
abbrev pub closing_in : ℕ → List Entry → ℕ → Option ℕ
closing_in depth [] inner = None
closing_in depth (e ∷ es) inner =
    if nat_lt e.depth depth then None else
    if e.depth == depth then searched_past (turn_of e.node) e.id (closing_in depth es) inner else closing_in depth es inner

-- The id of an entry, if there is one.
abbrev pub entry_id : Option Entry → Option ℕ
entry_id None = None
entry_id (Some e) = Some e.id
