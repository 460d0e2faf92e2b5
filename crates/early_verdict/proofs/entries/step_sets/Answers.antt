use Rattle.std.proofs.Common.{rules, ◌≡◌, sym, subst, ap, ◌∙◌, ◌++◌, ◌≤◌, length, take, drop, List}
use Rattle.early_verdict.specs.Standing.{AllEmpty, AllTidy, own_list}
use Rattle.early_verdict.specs.Living.{ComesOn}
use Rattle.early_verdict.specs.BlockRows.{own_row, previous_row}
use Rattle.early_verdict.specs.declared.sets.Sets.{Sets}
use Rattle.early_verdict.proofs.Places.{written}
use Rattle.early_verdict.proofs.entries.step_sets.Goals as goal

pub step_all-requires-clause-count : goal.step_all-requires-clause-count
step_all-requires-clause-count c =
    subst (λ (xs : List Sets). length c.args.formula.now.nodes ≤ length xs) (sym c.deref_mut.ensures.value) c.requires.count

pub step_all-requires-clause-shown_count : goal.step_all-requires-clause-shown_count
step_all-requires-clause-shown_count c = ap (λ (xs : List Sets). length xs) c.deref_mut-2.ensures.value ∙ c.requires.shown_count

pub step_all-requires-clause-tidy : goal.step_all-requires-clause-tidy
step_all-requires-clause-tidy c =
    subst (λ (xs : List Sets). AllTidy (own_list c.args.formula.now.nodes xs c.deref_mut-2.result.now)) (sym c.deref_mut.ensures.value)
    (subst (λ (xs : List Sets). AllTidy (own_list c.args.formula.now.nodes c.args.net.now.live.items xs)) (sym c.deref_mut-2.ensures.value) c.requires.tidy)

pub step_all-requires-clause-shown_tidy : goal.step_all-requires-clause-shown_tidy
step_all-requires-clause-shown_tidy c = subst (λ (xs : List Sets). AllTidy xs) (sym c.deref_mut-2.ensures.value) c.requires.shown_tidy

pub step_all-requires-clause-none : goal.step_all-requires-clause-none
step_all-requires-clause-none c = λ f.
    subst (λ (xs : List Sets). AllEmpty (own_list c.args.formula.now.nodes xs c.deref_mut-2.result.now)) (sym c.deref_mut.ensures.value)
    (subst (λ (xs : List Sets). AllEmpty (own_list c.args.formula.now.nodes c.args.net.now.live.items xs)) (sym c.deref_mut-2.ensures.value)
    (c.requires.none f))

pub returns : goal.returns
returns c =
    let nodes = c.args.formula.now.nodes in
    let b = c.args.bound.now in
    let e = c.args.entry.now in
    let before = previous_row c.args.next.now in
    let r = own_row c.args.next.now in
    let live = c.args.net.now.live in
    let shown = c.args.net.now.shown in
    let new = c.step_all.new.live in
    let new_shown = c.step_all.new.shown in
    let long : length new ≡ live.len = search rules in
    let long_shown : length new_shown ≡ shown.len = search rules in
    let left = take shown.len (new_shown ++ drop (length new_shown) shown.items) in
    subst (λ (xs : List Sets). ComesOn nodes b e before r (own_list nodes live.items shown.items) (own_list nodes xs left) shown.items left)
    (written new live.items live.len long)
    (subst (λ (xs : List Sets). ComesOn nodes b e before r (own_list nodes live.items shown.items) (own_list nodes new xs) shown.items xs)
    (written new_shown shown.items shown.len long_shown)
    (subst (λ (xs : List Sets). ComesOn nodes b e before r (own_list nodes xs shown.items) (own_list nodes new new_shown) shown.items new_shown)
    c.deref_mut.ensures.value
    (subst (λ (xs : List Sets). ComesOn nodes b e before r (own_list nodes c.deref_mut.result.now xs) (own_list nodes new new_shown) xs new_shown)
    c.deref_mut-2.ensures.value c.in_ok-step_all.ensures.comes)))
