use Rattle.std.proofs.Common.{ℕ, List, ap, ◌∙◌, subst}
use Rattle.std.specs.List.Sorted.{IsPermutation}
use Rattle.std.proofs.lemmas.List.Sorted.{IsNonDecreasingBy-from_sort}
use Rattle.fizz_task.specs.Indexed.{name_list}
use Rattle.fizz_task.proofs.Waking.{found_waiters}
use Rattle.fizz_task.proofs.indexing.find_all.Goals as goal

pub returns-clause-found : goal.returns-clause-found
returns-clause-found g c =
    found_waiters c.args.name.now c.args.columns.now c.args.by_name.now c.name_list-list.result c.sort_unstable.new.self.items c.requires.places.lists c.requires.guide
    (c.name_list-list.ensures ∙ ap (λ n. name_list n c.args.name.now) c.list_count.ensures.count)
    (subst (λ (l : List ℕ). IsPermutation l c.sort_unstable.new.self.items) c.find_waiting.ensures.found c.sort_unstable.ensures.permutation)
    (IsNonDecreasingBy-from_sort (λ (n : ℕ). n) _ c.sort_unstable.ensures.sorted)
