use Rattle.std.proofs.Common.{◌≡◌, ℕ, ◌∙◌, List, pos, refl, subst, arith}
use Rattle.rational.specs.Time.{whole}
use Rattle.stl_syntax.proofs.PostOrderLemmas.{placed}
use Rattle.early_verdict.specs.BlockRows.{own_row}
use Rattle.early_verdict.specs.Fitting.{AreEmpty, AreSetsTidy}
use Rattle.early_verdict.specs.Standing.{own_list, own_of}
use Rattle.early_verdict.specs.Living.{ComesOn}
use Rattle.early_verdict.specs.Making.{AreMade, AreShownOf}
use Rattle.early_verdict.specs.declared.sets.Sets.{Sets}
use Rattle.early_verdict.proofs.BlockLemmas.{none_before, own_wide}
use Rattle.early_verdict.proofs.GoingOn.{first_stand, leaves_bound}
use Rattle.early_verdict.proofs.EmptySets.{shown_empty, shown_tidy}
use Rattle.early_verdict.proofs.NodeSets.{own_all}
use Rattle.early_verdict.proofs.entries.take_first.Goals as goal

are : (live seen shown : List Sets) → seen ≡ live → AreShownOf seen shown → AreShownOf live shown
are live seen shown e h = subst (λ (xs : List Sets). AreShownOf xs shown) e h

pub step_sets-requires-clause-count : goal.step_sets-requires-clause-count
step_sets-requires-clause-count c = let a = c.in_ok-live.ensures.have.count in omega (arith, a)

pub step_sets-requires-clause-shown_count : goal.step_sets-requires-clause-shown_count
step_sets-requires-clause-shown_count c =
    (are c.in_ok-live.live.items c.deref.result.now c.in_ok-shown.shown.items c.deref.ensures.value c.in_ok-shown.ensures).count
    ∙ c.in_ok-live.ensures.have.count

pub step_sets-requires-clause-tidy : goal.step_sets-requires-clause-tidy
step_sets-requires-clause-tidy c =
    own_all AreSetsTidy c.args.formula.now.nodes c.in_ok-live.live.items c.in_ok-shown.shown.items c.in_ok-live.ensures.tidy
    (shown_tidy c.args.formula.now.nodes (whole (pos c.time.result)) c.in_ok-live.live.items c.in_ok-shown.shown.items c.in_ok-live.ensures
    (are c.in_ok-live.live.items c.deref.result.now c.in_ok-shown.shown.items c.deref.ensures.value c.in_ok-shown.ensures)
    (λ i n at. placed c.args.formula.now.nodes i n c.requires.open.1.formed.post_order at))

pub step_sets-requires-clause-shown_tidy : goal.step_sets-requires-clause-shown_tidy
step_sets-requires-clause-shown_tidy c =
    shown_tidy c.args.formula.now.nodes (whole (pos c.time.result)) c.in_ok-live.live.items c.in_ok-shown.shown.items c.in_ok-live.ensures
    (are c.in_ok-live.live.items c.deref.result.now c.in_ok-shown.shown.items c.deref.ensures.value c.in_ok-shown.ensures)
    (λ i n at. placed c.args.formula.now.nodes i n c.requires.open.1.formed.post_order at)

pub step_sets-requires-clause-none : goal.step_sets-requires-clause-none
step_sets-requires-clause-none c = λ f.
    own_all AreEmpty c.args.formula.now.nodes c.in_ok-live.live.items c.in_ok-shown.shown.items c.in_ok-live.ensures.empty
    (shown_empty c.args.formula.now.nodes (whole (pos c.time.result)) c.in_ok-live.live.items c.in_ok-shown.shown.items c.in_ok-live.ensures
    (are c.in_ok-live.live.items c.deref.result.now c.in_ok-shown.shown.items c.deref.ensures.value c.in_ok-shown.ensures)
    (λ i n at. placed c.args.formula.now.nodes i n c.requires.open.1.formed.post_order at))

pub step_sets-requires-clause-atoms : goal.step_sets-requires-clause-atoms
step_sets-requires-clause-atoms c = leaves_bound c.args.bound.now c.args.formula.now c.requires.open.0 c.requires.open.1.bound

pub returns : goal.returns
returns c = λ header o.
    let x = c.args.next.now in
    let nodes = c.args.formula.now.nodes in
    let shown = c.in_ok-shown.shown.items in
    let on = subst (λ q. ComesOn nodes c.args.bound.now c.first_entry-entry.result q (own_row x)
    (own_list nodes c.in_ok-live.live.items shown) (own_of nodes c.step_sets.new.net) shown c.step_sets.new.net.shown.items)
    (none_before x.block.now x.at c.requires.first) c.in_ok-step_sets.ensures in (
      refl,
      first_stand o (subst (λ (t : ℕ). AreMade nodes (whole (pos t)) c.in_ok-live.live.items) c.time.ensures c.in_ok-live.ensures)
          (are c.in_ok-live.live.items c.deref.result.now shown c.deref.ensures.value c.in_ok-shown.ensures)
          on (own_wide x ∙ c.requires.columns) c.first_entry-entry.ensures.open
          (c.first_entry-entry.ensures.happens header (own_row x) c.time-2.ensures),
    )
