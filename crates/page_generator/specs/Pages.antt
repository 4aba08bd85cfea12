-- Pages of a given size. A page has as many leaves, numbered from 0, in groups. Its component file is always the same. Its
-- settling script resolves first the list of the groups and then, with pauses, the value of each leaf but a few.
use Rattle.std.specs.Prelude.{ℕ, ◌+◌, ◌%◌, List, [], ◌∷◌, ◌++◌, length, take, drop, map, filter, codes, decimal, ◌==◌, ◌&&◌, Bool, not, if◌then◌else◌}
use Rattle.std.specs.List.{range_with_len, enumerate_from, join_by}
use Rattle.page_generator.specs.Draws.{drawn, state_after}

-- the component file: a leaf waits for its value, a group for its leaves, and the page for its groups
unfoldable pub program : List ℕ
program =
    codes "function Leaf({ n }) { const v = use(\"r\" + n); if (v === 0) throw \"zero\"; return <li data-n={n}>{v}</li>; }\n"
    ++ (codes "function Group({ g }) { return <Suspense fallback={<i>wait</i>}><ul>{g.items.map((n) => <Leaf n={n}/>)}</ul></Suspense>; }\n"
    ++ codes "function App() { const all = use(\"all\"); return <main>{all.map((g) => <Group g={g}/>)}</main>; }\n")

-- The leaves in groups, in order. A group takes one leaf more than its draw modulo 8; the last takes what is left, where
-- that is fewer.
abbrev pub groups_of : List ℕ → List ℕ → List (List ℕ)
groups_of [] leaves = []
groups_of (draw ∷ later) [] = []
groups_of (draw ∷ later) leaves = take (draw % 8 + 1) leaves ∷ groups_of later (drop (draw % 8 + 1) leaves)

-- the groups of a page of this size, drawn from this state on
abbrev pub page_groups : ℕ → ℕ → List (List ℕ)
page_groups x size = groups_of (drawn size x) (range_with_len 0 size)

-- what so many leaves draw from this state on: a number below 64 each, of which 63 stands for a leaf without a line
abbrev pub picks_from : ℕ → ℕ → List ℕ
picks_from x size = map (λ draw. draw % 64) (drawn size x)

-- the leaves of a page with their picks; all groups draw before the first leaf does
abbrev pub page_leaves : ℕ → ℕ → List (ℕ × ℕ)
page_leaves seed size = enumerate_from 0 (picks_from (state_after (length (page_groups seed size)) seed) size)

-- a JSON array
abbrev pub array_of : {A : Type 0} → (A → List ℕ) → List A → List ℕ
array_of text items = codes "[" ++ (join_by text (codes ",") items ++ codes "]")

-- a group in the list of groups: a record of the list of its leaves
abbrev pub group_text : List ℕ → List ℕ
group_text leaves = codes "{\"items\":" ++ (array_of decimal leaves ++ codes "}")

-- the line that resolves the list of groups
abbrev pub groups_line : List (List ℕ) → List ℕ
groups_line groups = codes "{\"resolve\":\"all\",\"value\":" ++ (array_of group_text groups ++ codes "}")

-- the line that resolves the value of a leaf, which is its pick modulo 50
abbrev pub leaf_line : ℕ × ℕ → List ℕ
leaf_line leaf =
    codes "{\"resolve\":\"r" ++ (decimal leaf.0 ++ (codes "\",\"value\":" ++ (decimal (leaf.1 % 50) ++ codes "}")))

-- the lines of a pause, in which all tasks are done and all bytes are flushed
abbrev pub pause_lines : List (List ℕ)
pause_lines = codes "{\"work\":0}" ∷ codes "{\"flush\":0}" ∷ []

-- a pause after every sixteenth line of a leaf
abbrev pub pause_after : ℕ → List (List ℕ)
pause_after count = if count % 16 == 0 then pause_lines else []

-- the lines of these leaves with pauses, where so many leaves' lines stand before them
abbrev pub lines_after : ℕ → List (ℕ × ℕ) → List (List ℕ)
lines_after count [] = []
lines_after count (leaf ∷ later) = leaf_line leaf ∷ (pause_after (count + 1) ++ lines_after (count + 1) later)

-- the leaf has a line, and its number leaves this remainder at 2
abbrev pub is_lined : ℕ → ℕ × ℕ → Bool
is_lined remainder leaf = (leaf.0 % 2 == remainder) && not (leaf.1 == 63)

-- the leaves in the order of their lines: the odd ones, and then the even ones
abbrev pub lined : List (ℕ × ℕ) → List (ℕ × ℕ)
lined leaves = filter (is_lined 1) leaves ++ filter (is_lined 0) leaves

-- the lines of a settling script
abbrev pub script_lines : ℕ → ℕ → List (List ℕ)
script_lines seed size = groups_line (page_groups seed size) ∷ lines_after 0 (lined (page_leaves seed size))

-- the settling script: a JSON array without spaces
unfoldable pub script_of : ℕ → ℕ → List ℕ
script_of seed size = array_of (λ line. line) (script_lines seed size)
