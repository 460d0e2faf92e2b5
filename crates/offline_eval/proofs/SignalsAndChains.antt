-- The chain of a signal, and the signal of a chain: the one tells what the other does.
use Rattle.std.proofs.Common.{◌≡◌, ℕ, ◌+◌, ◌-◌, ◌<◌, List, [], ◌∷◌, ◌++◌, length, Some, true, false, inl, inr, ap, sym, ◌∙◌, subst, arith}
use Rattle.std.specs.Prelude.{slice_get}
use Rattle.std.proofs.lemmas.Bool.{false≢true}
use Rattle.std.proofs.lemmas.List.{length-append}
use Rattle.std.proofs.lemmas.Option.{same_Some, slice_get_within}
use Rattle.rational.specs.Time.{Rational}
use Rattle.rational.specs.Places.{Place}
use Rattle.rational.specs.Windows.{Function}
use Rattle.rational.proofs.Lists.{slice_get-push_cases, slice_get_there}
use Rattle.rational.proofs.Order.{same_trans}
use Rattle.value_laws.specs.Members.{ShapeOf}
use Rattle.pl_signal.specs.declared.knot.Knot.{Knot}
use Rattle.pl_signal.specs.Knots as knots
use Rattle.pl_signal.specs.Moves as moves
use Rattle.pieces.specs.declared.piece.Piece.{Piece}
use Rattle.pieces.specs.Chains as chains
use Rattle.pieces.specs.Chains.{Chain}
use Rattle.pieces.specs.Knots.{before, after}
use Rattle.stl_syntax.specs.Formula.{subformula}
use Rattle.stl_syntax.specs.SupInf.{Setting, SupInf}
use Rattle.stl_syntax.specs.declared.node.Node.{Node}
use Rattle.offline_eval.specs.Forms.{of_knots, of_pieces}
use Rattle.offline_eval.specs.Evaluation.{AreSignalsOf, IsSignalOf, TellNodes}
use Rattle.offline_eval.specs.Making.{IsSound, TellAt}
use Rattle.offline_eval.proofs.Along.{tells_along}
use Rattle.offline_eval.proofs.Forms.{knots_laws, pieces_laws}
use Rattle.offline_eval.proofs.Pointwise.{value_of}

-- a chain from just before a time up to just after one has a piece
pub some_piece : {P : Type 0} (chain : Chain P) → chain.from.after ≡ false → (chains.stop chain).after ≡ true → 0 < length chain.pieces
some_piece {P = P} chain first last = by_pieces chain.from chain.pieces first last
  where
    by_pieces : (from : Place) (ps : List (Piece P)) → from.after ≡ false → (chains.stop_from from ps).after ≡ true → 0 < length ps
    by_pieces from [] first last = absurd (false≢true (sym first ∙ last))
    by_pieces from (p ∷ ps) first last = omega arith

module _ {P : Type 0} (shape : ShapeOf P) where
  -- the chain is worth what the signal is, from the signal's first time to its last one
  abbrev pub IsChainOf : List (Knot P) → Chain P → Type 0
  IsChainOf x c = chains.Tells shape (knots.IsWorth shape x) (before (knots.start x)) (after (knots.stop x)) c

  -- the chain of a signal tells what the signal tells
  pub chain_tells : (F : Function) (from to : Rational) (x : List (Knot P)) (c : Chain P) → moves.Tells shape F from to x → IsChainOf x c
      → chains.Tells shape F (before from) (after to) c
  chain_tells F from to x c tells is = tells_along (pieces_laws shape) (knots.IsWorth shape x) F (knots.start x) (knots.stop x) from to c is tells.begins
      tells.ends (λ t v w. value_of (knots_laws shape) F from to x t v tells w)

  -- and the signal of a chain what the chain tells
  pub signal_tells : (F : Function) (from to : Rational) (c : Chain P) (x : List (Knot P)) → chains.Tells shape F (before from) (after to) c
      → IsSignalOf shape c x → moves.Tells shape F from to x
  signal_tells F from to c x tells is = tells_along (knots_laws shape) (chains.IsWorth shape c) F c.from.at (chains.stop c).at from to x is tells.begins.0
      tells.ends.0 (λ t v w. value_of (pieces_laws shape) F from to c t v tells w)

  -- so the signals of chains that tell the nodes tell them
  pub signals_tell : (nodes : List Node) (s : Setting) (cs : List (Chain P)) (xs : List (List (Knot P))) → AreSignalsOf shape cs xs
      → TellNodes (of_pieces shape) nodes cs s → TellNodes (of_knots shape) nodes xs s
  signals_tell nodes s cs xs are told i inside =
      let (c, at, tells) = told i inside in
      let within = slice_get_within cs i c at in
      let (x, there) = slice_get_there xs i (let e = are.count in omega (arith, within, e)) in
      (x, there, signal_tells (SupInf (subformula nodes i) s) s.from s.to c x tells (are.each i c x at there))

  -- so do the signals of the chains of all nodes but the last, with one more that tells the last
  pub signals_tell_under : {ys : List (List (Knot P))} (nodes : List Node) (s : Setting) (cs : List (Chain P)) (xs : List (List (Knot P))) (y : List (Knot P))
      → length cs + 1 ≡ length nodes → ys ≡ xs ++ y ∷ [] → AreSignalsOf shape cs xs → TellAt (of_pieces shape) s (subformula nodes) cs
      → moves.Tells shape (SupInf (subformula nodes (length nodes - 1)) s) s.from s.to y → TellNodes (of_knots shape) nodes ys s
  signals_tell_under {ys} nodes s cs xs y count pushed are told last i inside =
      let long = are.count in
      let all : length ys ≡ length nodes = ap length pushed ∙ length-append xs (y ∷ []) ∙ ap (λ n. n + 1) long ∙ count in
      let (x, there) = slice_get_there ys i (omega (arith, inside, all)) in (
        x,
        there,
        elim (slice_get-push_cases xs y i x (subst (λ l. slice_get l i ≡ Some x) pushed there)) [
          | inl h ↦ (
              let (c, at) = slice_get_there cs i (let within = slice_get_within xs i x h in omega (arith, within, long)) in
              signal_tells (SupInf (subformula nodes i) s) s.from s.to c x (told i c at) (are.each i c x at h))
          | inr (e, f) ↦ (
              let place : length nodes - 1 ≡ i = omega (arith, e, long, count) in
              subst (λ k. moves.Tells shape (SupInf (subformula nodes k) s) s.from s.to x) place
              (subst (moves.Tells shape (SupInf (subformula nodes (length nodes - 1)) s) s.from s.to) (sym f) last))
        ],
      )

  -- one signal more, of the chain at its place
  pub pushed_signal : (cs : List (Chain P)) (xs ys : List (List (Knot P))) (k : ℕ) (c : Chain P) (x : List (Knot P)) → length xs ≡ k → ys ≡ xs ++ x ∷ []
      → slice_get cs k ≡ Some c → IsSignalOf shape c x
      → ((i : ℕ) (d : Chain P) (y : List (Knot P)) → slice_get cs i ≡ Some d → slice_get xs i ≡ Some y → IsSignalOf shape d y)
      → (i : ℕ) (d : Chain P) (y : List (Knot P)) → slice_get cs i ≡ Some d → slice_get ys i ≡ Some y → IsSignalOf shape d y
  pushed_signal cs xs ys k c x count pushed here is each i d y at there =
      elim (slice_get-push_cases xs x i y (subst (λ l. slice_get l i ≡ Some y) pushed there)) [
        | inl h ↦ each i d y at h
        | inr (e, f) ↦ (
            let same : d ≡ c = same_Some _ _ (sym at ∙ ap (slice_get cs) (e ∙ count) ∙ here) in
            subst (λ a. IsSignalOf shape a y) (sym same) (subst (λ b. IsSignalOf shape c b) (sym f) is))
      ]

  -- the chain of a sound signal is sound
  pub chain_sound : (from to reach : ℕ) (x : List (Knot P)) (c : Chain P) → IsSound (of_knots shape) from to reach x → IsChainOf x c
      → chains.IsLimited shape c → ((p : P) → chains.HasShape c p → knots.HasShape x p) → IsSound (of_pieces shape) from to reach c
  chain_sound from to reach x c sound is limited shapes = record {
    begins = same_trans is.begins.0 sound.begins;
    ends = same_trans is.ends.0 sound.ends;
    limited = record { limited = limited; first = is.begins.1; last = is.ends.1 };
    bases = λ p h. sound.bases p (shapes p h);
  }
