-- A window meets pieces one after another: each next one is a piece of the chains that go on with it.
use Rattle.std.proofs.Common.{◌≡◌, inl, List, [], ◌∷◌, ◌++◌, refl, sym, ap, subst, ◌∙◌, append_assoc}
use Rattle.rational.specs.Rational.{add, whole}
use Rattle.rational.specs.Time.{Rational, ◌≤ʳ◌, ◌<ʳ◌}
use Rattle.rational.specs.Extended.{value_at}
use Rattle.rational.specs.Places.{Place, AtMost}
use Rattle.rational.proofs.AffineLemmas.{same_reflᵉ}
use Rattle.rational.proofs.Order.{lt_of_lt_of_le}
use Rattle.rational.proofs.Shift.{le_shift}
use Rattle.frac128.specs.Cuts.{place}
use Rattle.value_laws.specs.Kinds.{margin_shape}
use Rattle.value_laws.specs.declared.margin.Margin.{Margin}
use Rattle.pieces.specs.declared.piece.Piece.{Piece}
use Rattle.pieces.specs.declared.stream.Stream.{Stream}
use Rattle.pieces.specs.Chains.{Chain, Rise, end, stop, stop_from}
use Rattle.pieces.specs.Streaming.{ComesNext, Follows}
use Rattle.pieces.specs.Windows.{IsPieceFrom}
use Rattle.pieces.proofs.ChainLemmas.{rise_back, rise_front, shape_back, stop_append, to_stop, worth_back}
use Rattle.online_robust.specs.Slides.{CanGoOver, HasMet, chain_of}

-- where a list of pieces ends that goes on with one
pub stop_of_next : (from : Place) (ps : List (Piece Margin)) (p : Piece Margin) → stop_from from (ps ++ p ∷ []) ≡ end p
stop_of_next from ps p = stop_append from ps (p ∷ [])

module _ (from : Place) (ps : List (Piece Margin)) (p : Piece Margin) (more : List (Piece Margin)) where
  -- the piece is one of the chain, from where those before it end
  pub next_piece : Rise from (ps ++ p ∷ more) → IsPieceFrom margin_shape (chain_of from (ps ++ p ∷ more)) (stop_from from ps) p
  next_piece rise =
      let tail : Rise (stop_from from ps) (p ∷ more) = rise_back from ps (p ∷ more) rise in record {
        order = tail.0;
        begins = to_stop from ps (rise_front from ps (p ∷ more) rise);
        ends = subst (λ c. AtMost (end p) c) (sym (stop_append from ps (p ∷ more))) (to_stop (end p) more tail.1);
        worth = λ t a u. worth_back margin_shape from ps (p ∷ more) t (value_at (margin_shape.function p.shape) t)
            (inl (a, u, same_reflᵉ (value_at (margin_shape.function p.shape) t)));
        has = shape_back ps (p ∷ more) p.shape (inl refl);
      }

  -- the same chain, with the piece among those before
  pub same_chain : chain_of from ((ps ++ p ∷ []) ++ more) ≡ chain_of from (ps ++ p ∷ more)
  same_chain = ap (chain_of from) (append_assoc ps (p ∷ []) more)

-- the next piece comes, to a window that reaches past where the others end
module _ (from : Place) (to : Rational) (ps : List (Piece Margin)) (w : Stream Margin) (met : HasMet from to ps w) (p : Piece Margin)
    (comes : (place w.met).at <ʳ add to (whole w.way.over.high)) where
  pub next_comes : (more : List (Piece Margin)) → CanGoOver w.way (chain_of from (ps ++ p ∷ more)) → to ≤ʳ (stop (chain_of from (ps ++ p ∷ more))).at
      → ComesNext margin_shape (chain_of from (ps ++ p ∷ more)) w p
  next_comes more can far = record {
    piece = subst (λ c. IsPieceFrom margin_shape (chain_of from (ps ++ p ∷ more)) c p) (sym met.met) (next_piece from ps p more can.can.rising);
    comes = lt_of_lt_of_le comes (le_shift w.way.over.high far);
  }

  -- the window has met it
  pub met_next : (w' : Stream Margin) → w'.way ≡ w.way → place w'.met ≡ end p
      → ((s : Chain Margin) → Follows margin_shape s w → ComesNext margin_shape s w p → Follows margin_shape s w')
      → HasMet from to (ps ++ p ∷ []) w'
  met_next w' way is follows = record {
    met = is ∙ sym (stop_of_next from ps p);
    follows = λ more can far.
        let same = same_chain from ps p more in
        let can' : CanGoOver w.way (chain_of from (ps ++ p ∷ more)) =
        subst (λ v. CanGoOver v (chain_of from (ps ++ p ∷ more))) way (subst (CanGoOver w'.way) same can) in
        let far' : to ≤ʳ (stop (chain_of from (ps ++ p ∷ more))).at = subst (λ s. to ≤ʳ (stop s).at) same far in
        subst (λ s. Follows margin_shape s w') (sym same)
        (follows (chain_of from (ps ++ p ∷ more)) (met.follows (p ∷ more) can' far') (next_comes more can' far'));
  }
