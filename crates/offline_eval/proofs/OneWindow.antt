-- The operators over one window: what their signals keep and tell, and for what they may be refused.
use Rattle.std.proofs.Common.{ℕ, ◌≤◌, Bool, sym, subst}
use Rattle.std.specs.Prelude.{Option}
use Rattle.rational.specs.Windows.{Ahead, Behind, IsSupOver, IsInfOver}
use Rattle.rational.specs.InPlay.{window_ahead, window_behind}
use Rattle.value_laws.specs.Members.{ShapeLaws}
use Rattle.pl_signal.specs.declared.faults.OpFault.{OpFault}
use Rattle.pl_signal.specs.Wide.{HasCause}
use Rattle.pieces.specs.Windows.{SupAhead, InfAhead, SupBehind, InfBehind}
use Rattle.stl_syntax.specs.Formula.{eventually, always, once, historically}
use Rattle.stl_syntax.specs.Limits.{reach_of_bound}
use Rattle.stl_syntax.specs.SupInf.{SupInf}
use Rattle.stl_syntax.specs.WellFormed.{IsInOrder}
use Rattle.offline_eval.specs.Forms.{Form}
use Rattle.offline_eval.specs.Making.{FaultOfOne, StaysSound, TellsOne}
use Rattle.offline_eval.proofs.Forms.{FormLaws}
use Rattle.offline_eval.proofs.Sound.{limited_along, stays_sound}
use Rattle.offline_eval.proofs.WindowLemmas.{BasesAhead, BasesBehind, sup_over_bounded, inf_over_bounded, ahead_moved, behind_moved, ahead_cause, behind_cause}
use Rattle.offline_eval.proofs.WindowLemmas.{sup_ahead_told, inf_ahead_told, sup_behind_told, inf_behind_told}

module _ {X P : Type 0} {form : Form X P} (laws : FormLaws form) (a b : ℕ) (a_in b_in : Bool) (x : X) where
  -- the Sup ahead tells `eventually`
  pub told_eventually : (r : X) → form.Tells (SupAhead (form.start x) (form.stop x) (form.IsWorth x) form.shape.lowest a b a_in b_in)
      (form.start x) (form.stop x) r → TellsOne form (eventually a b a_in b_in) x r
  told_eventually r made s p ends tells =
      subst (λ e. form.Tells (λ t v. IsSupOver e (Ahead s.from s.to a b a_in b_in t) (SupInf p s) v) s.from s.to r) (sym ends.lowest)
      (sup_ahead_told laws (SupInf p s) s.from s.to x r (laws.told (SupInf p s) s.from s.to x tells) a b a_in b_in made)

  -- the Inf ahead `always`
  pub told_always : (r : X) → form.Tells (InfAhead (form.start x) (form.stop x) (form.IsWorth x) form.shape.highest a b a_in b_in)
      (form.start x) (form.stop x) r → TellsOne form (always a b a_in b_in) x r
  told_always r made s p ends tells =
      subst (λ e. form.Tells (λ t v. IsInfOver e (Ahead s.from s.to a b a_in b_in t) (SupInf p s) v) s.from s.to r) (sym ends.highest)
      (inf_ahead_told laws (SupInf p s) s.from s.to x r (laws.told (SupInf p s) s.from s.to x tells) a b a_in b_in made)

  -- what may be refused there is a fault of these formulas
  pub fault_eventually : (e : OpFault P) → HasCause form.shape (window_ahead (form.IsWorth x) a b a_in b_in) (form.start x) (form.stop x) e
      → FaultOfOne form (eventually a b a_in b_in) x e
  fault_eventually e h s p ends tells = ahead_cause laws (SupInf p s) x a b a_in b_in (eventually a b a_in b_in p) s e tells (λ C i. i) h

  -- and of this one
  pub fault_always : (e : OpFault P) → HasCause form.shape (window_ahead (form.IsWorth x) a b a_in b_in) (form.start x) (form.stop x) e
      → FaultOfOne form (always a b a_in b_in) x e
  fault_always e h s p ends tells = ahead_cause laws (SupInf p s) x a b a_in b_in (always a b a_in b_in p) s e tells (λ C i. i) h

  module _ (kind : ShapeLaws form.shape) (order : a ≤ b) (limited : form.IsLimited x) (r : X) (bases : BasesAhead form a b x r) where
    -- the Sup ahead of a sound signal is sound
    pub sup_ahead_sound : form.Tells (SupAhead (form.start x) (form.stop x) (form.IsWorth x) form.shape.lowest a b a_in b_in)
        (form.start x) (form.stop x) r → StaysSound form b x r
    sup_ahead_sound made =
        let F = SupAhead (form.start x) (form.stop x) (form.IsWorth x) form.shape.lowest a b a_in b_in in
        let is = laws.told F (form.start x) (form.stop x) r made in
        stays_sound form kind b x r is.begins is.ends
        (limited_along laws F x r limited made (λ t v s. sup_over_bounded laws x (Ahead (form.start x)
        (form.stop x) a b a_in b_in t) v kind.lowest_bounded limited s))
        (ahead_moved form a b x r order bases)

    -- so is the Inf
    pub inf_ahead_sound : form.Tells (InfAhead (form.start x) (form.stop x) (form.IsWorth x) form.shape.highest a b a_in b_in)
        (form.start x) (form.stop x) r → StaysSound form b x r
    inf_ahead_sound made =
        let F = InfAhead (form.start x) (form.stop x) (form.IsWorth x) form.shape.highest a b a_in b_in in
        let is = laws.told F (form.start x) (form.stop x) r made in
        stays_sound form kind b x r is.begins is.ends
        (limited_along laws F x r limited made (λ t v s. inf_over_bounded laws x (Ahead (form.start x)
        (form.stop x) a b a_in b_in t) v kind.highest_bounded limited s))
        (ahead_moved form a b x r order bases)

module _ {X P : Type 0} {form : Form X P} (laws : FormLaws form) (a : ℕ) (b : Option ℕ) (a_in b_in : Bool) (x : X) where
  -- the Sup behind tells `once`
  pub told_once : (r : X) → form.Tells (SupBehind (form.start x) (form.stop x) (form.IsWorth x) form.shape.lowest a b a_in b_in)
      (form.start x) (form.stop x) r → TellsOne form (once a b a_in b_in) x r
  told_once r made s p ends tells =
      subst (λ e. form.Tells (λ t v. IsSupOver e (Behind s.from s.to a b a_in b_in t) (SupInf p s) v) s.from s.to r) (sym ends.lowest)
      (sup_behind_told laws (SupInf p s) s.from s.to x r (laws.told (SupInf p s) s.from s.to x tells) a b a_in b_in made)

  -- the Inf behind `historically`
  pub told_historically : (r : X) → form.Tells (InfBehind (form.start x) (form.stop x) (form.IsWorth x) form.shape.highest a b a_in b_in)
      (form.start x) (form.stop x) r → TellsOne form (historically a b a_in b_in) x r
  told_historically r made s p ends tells =
      subst (λ e. form.Tells (λ t v. IsInfOver e (Behind s.from s.to a b a_in b_in t) (SupInf p s) v) s.from s.to r) (sym ends.highest)
      (inf_behind_told laws (SupInf p s) s.from s.to x r (laws.told (SupInf p s) s.from s.to x tells) a b a_in b_in made)

  -- what may be refused there is a fault of these formulas
  pub fault_once : (e : OpFault P) → HasCause form.shape (window_behind (form.IsWorth x) a b a_in b_in) (form.start x) (form.stop x) e
      → FaultOfOne form (once a b a_in b_in) x e
  fault_once e h s p ends tells = behind_cause laws (SupInf p s) x a b a_in b_in (once a b a_in b_in p) s e tells (λ C i. i) h

  -- and of this one
  pub fault_historically : (e : OpFault P) → HasCause form.shape (window_behind (form.IsWorth x) a b a_in b_in) (form.start x) (form.stop x) e
      → FaultOfOne form (historically a b a_in b_in) x e
  fault_historically e h s p ends tells = behind_cause laws (SupInf p s) x a b a_in b_in (historically a b a_in b_in p) s e tells (λ C i. i) h

  module _ (kind : ShapeLaws form.shape) (order : IsInOrder a b) (limited : form.IsLimited x) (r : X) (bases : BasesBehind form a b x r) where
    -- the Sup behind of a sound signal is sound
    pub sup_behind_sound : form.Tells (SupBehind (form.start x) (form.stop x) (form.IsWorth x) form.shape.lowest a b a_in b_in)
        (form.start x) (form.stop x) r → StaysSound form (reach_of_bound a b) x r
    sup_behind_sound made =
        let F = SupBehind (form.start x) (form.stop x) (form.IsWorth x) form.shape.lowest a b a_in b_in in
        let is = laws.told F (form.start x) (form.stop x) r made in
        stays_sound form kind (reach_of_bound a b) x r is.begins is.ends
        (limited_along laws F x r limited made (λ t v s. sup_over_bounded laws x (Behind (form.start x)
        (form.stop x) a b a_in b_in t) v kind.lowest_bounded limited s))
        (behind_moved form a b x r order bases)

    -- so is the Inf
    pub inf_behind_sound : form.Tells (InfBehind (form.start x) (form.stop x) (form.IsWorth x) form.shape.highest a b a_in b_in)
        (form.start x) (form.stop x) r → StaysSound form (reach_of_bound a b) x r
    inf_behind_sound made =
        let F = InfBehind (form.start x) (form.stop x) (form.IsWorth x) form.shape.highest a b a_in b_in in
        let is = laws.told F (form.start x) (form.stop x) r made in
        stays_sound form kind (reach_of_bound a b) x r is.begins is.ends
        (limited_along laws F x r limited made (λ t v s. inf_over_bounded laws x (Behind (form.start x)
        (form.stop x) a b a_in b_in t) v kind.highest_bounded limited s))
        (behind_moved form a b x r order bases)
