-- The chain of a signal, and the signal of what an operator makes of it: both are one function of time over one domain.
use Rattle.std.proofs.Common.{◌≡◌, ◌<◌, ◌^◌, List, [], ◌∷◌, length, true, false, refl, sym, ◌∙◌, subst, arith}
use Rattle.std.specs.Prelude.{◌↔◌, Result, Ok, Err, IfErr, IsErrAnd}
use Rattle.std.proofs.lemmas.Bool.{false≢true}
use Rattle.rational.specs.Rational.{IsWithin}
use Rattle.rational.specs.Time.{Rational, Within, ◌≈◌}
use Rattle.rational.specs.Extended.{Extended}
use Rattle.rational.specs.Places.{Place, After, Upto, Same}
use Rattle.rational.specs.Windows.{Function}
use Rattle.rational.proofs.Order.{le_trans, le_of_same, ge_of_same, same_sym, same_trans}
use Rattle.rational.proofs.Mixed.{within_same}
use Rattle.rational.proofs.PlaceLemmas.{after_same, upto_same, same_places, same_trans_places}
use Rattle.value_laws.specs.Members.{ShapeOf}
use Rattle.pl_signal.specs.declared.knot.Knot.{Knot}
use Rattle.pl_signal.specs.Knots as knots
use Rattle.pl_signal.specs.Moves as moves
use Rattle.pieces.specs.declared.piece.Piece.{Piece}
use Rattle.pieces.specs.Chains.{Chain, stop, stop_from, HasShape, IsLimited, IsWorth, Tells}
use Rattle.pieces.specs.Knots.{before, after}
use Rattle.pieces.proofs.Stretches.{IsOn}

-- what holds of the error that is handed on
pub err_same : {A E : Type 0} (r : Result A E) (e : E) (X : E → Type 0) → IsErrAnd r (λ y. y ≡ e) → X e → IfErr r X
err_same (Ok a) e X h x = absurd h
err_same (Err y) e X h x = subst X (sym h) x

-- between just before a time and just after one there is some piece
some_between : {P : Type 0} (c : Place) (ps : List (Piece P)) → c.after ≡ false → (stop_from c ps).after ≡ true → 0 < length ps
some_between c [] first last = absurd (false≢true (sym first ∙ last))
some_between c (p ∷ ps) first last = omega arith

module _ {P : Type 0} (shape : ShapeOf P) where
  -- the chain is what the signal is, in its shapes
  pub record IsChainOf (s : List (Knot P)) (c : Chain P) : Type 0 where
    -- it goes over the signal's domain, and is worth what that is
    pub tells : Tells shape (knots.IsWorth shape s) (before (knots.start s)) (after (knots.stop s)) c
    -- at each time
    pub alike : (t : Rational) (v : Extended) → IsWorth shape c t v ↔ knots.IsWorth shape s t v
    -- it is limited
    pub limited : IsLimited shape c
    -- and made of the signal's shapes
    pub shapes : (p : P) → HasShape c p → knots.HasShape s p

module _ {P : Type 0} {shape : ShapeOf P} {s : List (Knot P)} {c : Chain P} (is : IsChainOf shape s c) where
  -- the chain begins with the signal's first time
  pub chain_begins : c.from.at ≈ knots.start s
  chain_begins = is.tells.begins.0

  -- and ends with its last one
  pub chain_ends : (stop c).at ≈ knots.stop s
  chain_ends = is.tells.ends.0

  -- over a domain that is the same, it is the signal there
  pub chain_on : (from to : Rational) → c.from.at ≈ from → (stop c).at ≈ to → IsOn from to (IsWorth shape c) (knots.IsWorth shape s)
  chain_on from to begins ends = record {
    inside = λ t v w. let h = (is.tells.worth t v).0 w in record {
      above = le_trans (le_of_same (same_trans (same_sym begins) chain_begins)) h.0;
      below = le_trans h.1 (le_of_same (same_trans (same_sym chain_ends) ends));
    };
    forth = λ t v w. (is.alike t v).0 w;
    back = λ t v i w. (is.alike t v).1 w;
  }

  module _ {F : Function} {r : Chain P} (told : Tells shape F c.from (stop c) r) where
    -- a chain that is told between the ends of this one begins just before a time
    pub told_first : r.from.after ≡ false
    told_first = told.begins.1 ∙ is.tells.begins.1

    -- ends just after one
    pub told_last : (stop r).after ≡ true
    told_last = told.ends.1 ∙ is.tells.ends.1

    -- has some piece
    pub told_some : 0 < length r.pieces
    told_some = some_between r.from r.pieces told_first told_last

    -- and has its ends within 2^34
    pub told_from_within : IsWithin (2 ^ 34) r.from.at
    told_from_within = within_same (2 ^ 34) (same_sym told.begins.0) is.limited.begins

    pub told_to_within : IsWithin (2 ^ 34) (stop r).at
    told_to_within = within_same (2 ^ 34) (same_sym told.ends.0) is.limited.ends

    -- its signal tells each function that is the same
    pub signal_told : (G : Function) (x : List (Knot P)) → ((t : Rational) (v : Extended) → F t v ↔ G t v)
        → moves.Tells shape (IsWorth shape r) r.from.at (stop r).at x → moves.Tells shape G (knots.start s) (knots.stop s) x
    signal_told G x same made = record {
      signal = made.signal;
      begins = same_trans made.begins (same_trans told.begins.0 chain_begins);
      ends = same_trans made.ends (same_trans told.ends.0 chain_ends);
      worth = λ t v. (λ w. forth t v ((told.worth t v).0 ((made.worth t v).0 w).1), λ (i, g). (made.worth t v).1 (back t v i g));
    }
      where
        forth : (t : Rational) (v : Extended) → After c.from t × Upto (stop c) t × F t v → Within (knots.start s) (knots.stop s) t × G t v
        forth t v (a, u, f) = (
          record {
            above = after_same c.from (before (knots.start s)) t is.tells.begins a;
            below = upto_same (stop c) (after (knots.stop s)) t is.tells.ends u;
          },
          (same t v).0 f,
        )

        back : (t : Rational) (v : Extended) → Within (knots.start s) (knots.stop s) t → G t v → Within r.from.at (stop r).at t × IsWorth shape r t v
        back t v i g = (
          record {
            above = le_trans (le_of_same (same_trans told.begins.0 chain_begins)) i.above;
            below = le_trans i.below (ge_of_same (same_trans told.ends.0 chain_ends));
          },
          (told.worth t v).1 (
            after_same (before (knots.start s)) c.from t (same_places is.tells.begins) i.above,
            upto_same (after (knots.stop s)) (stop c) t (same_places is.tells.ends) i.below,
            (same t v).1 g,
          ),
        )

module _ {P : Type 0} {shape : ShapeOf P} {s u : List (Knot P)} {c d : Chain P} (left : IsChainOf shape s c) (right : IsChainOf shape u d) where
  -- the chains of two signals that begin at one time begin at one place
  pub chains_begin : knots.start s ≈ knots.start u → Same c.from d.from
  chains_begin e = same_trans_places left.tells.begins (same_trans_places (e, refl) (same_places right.tells.begins))

  -- and end at one where those end at one time
  pub chains_end : knots.stop s ≈ knots.stop u → Same (stop c) (stop d)
  chains_end e = same_trans_places left.tells.ends (same_trans_places (e, refl) (same_places right.tells.ends))
