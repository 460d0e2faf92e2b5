-- What both forms of a signal have in common: what it says that one tells a function.
use Rattle.std.proofs.Common.{◌≡◌, ◌^◌, List, [], ◌∷◌, ap, sym, subst, ◌∙◌, arith}
use Rattle.std.specs.Prelude.{◌↔◌, pos}
use Rattle.rational.specs.Time.{Rational, Within, Interval, IsIn, whole, ◌≈◌}
use Rattle.rational.specs.Rational.{IsWithin}
use Rattle.rational.specs.Extended.{Extended, ◌≤ᵉ◌, ◌≈ᵉ◌, value_at}
use Rattle.rational.specs.Affine.{IsBounded}
use Rattle.rational.specs.Places.{Same}
use Rattle.rational.specs.Windows.{Function, IsInfOver}
use Rattle.rational.proofs.Order.{le_trans, le_of_same, ge_of_same, same_sym, same_refl}
use Rattle.rational.proofs.PlaceLemmas.{after_same, upto_same, same_places}
use Rattle.value_laws.specs.Members.{ShapeOf}
use Rattle.pl_signal.specs.declared.knot.Knot.{Knot}
use Rattle.pl_signal.specs.Knots as knots
use Rattle.pl_signal.specs.Limits as limits
use Rattle.pl_signal.proofs.Limits as signals
use Rattle.pl_signal.proofs.Values as values
use Rattle.pl_signal.proofs.SupLemmas.{signal_inf}
use Rattle.pieces.specs.Chains as chains
use Rattle.pieces.specs.Chains.{Chain}
use Rattle.pieces.specs.Knots.{before, after}
use Rattle.pieces.proofs.ChainLemmas as pieces
use Rattle.pieces.proofs.Infs.{chain_inf}
use Rattle.offline_eval.specs.Forms.{Form, IsClosed, of_knots, of_pieces}

-- whether a time is within its limits does not depend on its pair
pub same_within : {a b : Rational} → a ≈ b → IsWithin (2 ^ 34) a → IsWithin (2 ^ 34) b
same_within e h = (le_trans h.0 (le_of_same e), le_trans (ge_of_same e) h.1)

-- x goes from the one time to the other, and is worth at each time between what F says there
pub record IsTold {X P : Type 0} (form : Form X P) (F : Function) (from to : Rational) (x : X) : Type 0 where
  -- it begins with the one time
  pub begins : form.start x ≈ from
  -- and ends with the other
  pub ends : form.stop x ≈ to
  -- at each time it is worth what the function says
  pub worth : (t : Rational) (v : Extended) → form.IsWorth x t v ↔ (Within from to t × F t v)

-- what holds of a form
pub record FormLaws {X P : Type 0} (form : Form X P) : Type 1 where
  -- where x tells a function, it is that function between the two times
  pub told : (F : Function) (from to : Rational) (x : X) → form.Tells F from to x → IsTold form F from to x
  -- so it tells each function that is the same there
  pub retold : (F G : Function) (from to from' to' : Rational) (x : X) → form.Tells F from to x → IsTold form G from' to' x → form.Tells G from' to' x
  -- it has a value at each time
  pub every_time : (F : Function) (from to : Rational) (x : X) (t : Rational) → form.Tells F from to x → Within from to t
      → (v : Extended) × form.IsWorth x t v
  -- in whichever words the value is written
  pub worth_same : (x : X) (t : Rational) (v w : Extended) → v ≈ᵉ w → form.IsWorth x t v → form.IsWorth x t w
  -- with bounded values, between times within 2^34, it is limited
  pub limited : (F : Function) (from to : Rational) (x : X) → form.Tells F from to x → ((t : Rational) (v : Extended) → F t v → IsBounded (2 ^ 31) v)
      → IsWithin (2 ^ 34) from → IsWithin (2 ^ 34) to → form.IsLimited x
  -- where it is limited its values are bounded
  pub bounded : (x : X) → form.IsLimited x → (t : Rational) (v : Extended) → form.IsWorth x t v → IsBounded (2 ^ 31) v
  -- and its ends are within 2^34
  pub start_within : (x : X) → form.IsLimited x → IsWithin (2 ^ 34) (form.start x)
  pub stop_within : (x : X) → form.IsLimited x → IsWithin (2 ^ 34) (form.stop x)
  -- it has an Inf over each interval
  pub infs : ((p : P) (t : Rational) → value_at (form.shape.function p) t ≤ᵉ form.shape.highest) → (x : X) (on : Interval)
      → (r : Extended) × IsInfOver form.shape.highest (IsIn on) (form.IsWorth x) r

module _ {P : Type 0} (shape : ShapeOf P) where
  zero_within : IsWithin (2 ^ 34) (whole (pos 0))
  zero_within = (omega arith, omega arith)

  first_within : (x : List (Knot P)) → limits.IsLimited shape x → IsWithin (2 ^ 34) (knots.start x)
  first_within [] l = zero_within
  first_within (k ∷ ks) l = l.0.when

  last_within : (x : List (Knot P)) → limits.IsLimited shape x → IsWithin (2 ^ 34) (knots.stop x)
  last_within [] l = zero_within
  last_within (k ∷ ks) l = signals.limited_last shape k ks l

  -- signals of knots
  pub knots_laws : FormLaws (of_knots shape)
  knots_laws = record {
    told = λ F from to x tells. record { begins = tells.begins; ends = tells.ends; worth = tells.worth };
    retold = λ F G from to from' to' x tells is. record { signal = tells.signal; begins = is.begins; ends = is.ends; worth = is.worth };
    every_time = λ F from to x t tells w. values.every_time shape x t tells.signal
        (record { above = le_trans (le_of_same tells.begins) w.above; below = le_trans w.below (ge_of_same tells.ends) });
    worth_same = λ x t v w e h. values.worth_same shape x v w (same_refl t) e h;
    limited = λ F from to x tells small from_within to_within. signals.limited shape x tells.signal
        (λ t v w. small t v ((tells.worth t v).0 w).1) (same_within (same_sym tells.begins) from_within) (same_within (same_sym tells.ends) to_within);
    bounded = signals.worth_bounded shape;
    start_within = first_within;
    stop_within = last_within;
    infs = signal_inf shape;
  }

  -- chains of pieces
  pub pieces_laws : FormLaws (of_pieces shape)
  pieces_laws = record {
    told = λ F from to x tells. record {
      begins = tells.begins.0;
      ends = tells.ends.0;
      worth = λ t v. (
        λ w. let h = (tells.worth t v).0 w in (record { above = h.0; below = h.1 }, h.2),
        λ h. (tells.worth t v).1 (h.0.above, h.0.below, h.1),
      );
    };
    retold = λ F G from to from' to' x tells is. record {
      normal = tells.normal;
      begins = (is.begins, tells.begins.1);
      ends = (is.ends, tells.ends.1);
      worth = λ t v. (
        λ w. let h = (is.worth t v).0 w in (h.0.above, h.0.below, h.1),
        λ h. (is.worth t v).1 (record { above = h.0; below = h.1 }, h.2),
      );
    };
    every_time = λ F from to x t tells w. pieces.every_time shape x.from x.pieces t (after_same (before from) x.from t (same_places tells.begins) w.above)
        (upto_same (after to) (chains.stop x) t (same_places tells.ends) w.below);
    worth_same = λ x t v w e h. pieces.worth_same shape x.from x.pieces v w (same_refl t) e h;
    limited = λ F from to x tells small from_within to_within. record {
      limited = record {
        begins = same_within (same_sym tells.begins.0) from_within;
        ends = same_within (same_sym tells.ends.0) to_within;
        values = λ t v w. small t v ((tells.worth t v).0 w).2;
      };
      first = tells.begins.1;
      last = tells.ends.1;
    };
    bounded = λ x l. l.limited.values;
    start_within = λ x l. l.limited.begins;
    stop_within = λ x l. l.limited.ends;
    infs = λ most x on. chain_inf shape most x.from x.pieces on;
  }

  -- a limited chain between places begins just before its first time
  pub first_place : (x : Chain P) → IsClosed shape x → x.from ≡ before x.from.at
  first_place x closed = ap (λ side. record { at = x.from.at; after = side }) closed.first

  -- and ends just after its last one
  pub last_place : (x : Chain P) → IsClosed shape x → chains.stop x ≡ after (chains.stop x).at
  last_place x closed = ap (λ side. record { at = (chains.stop x).at; after = side }) closed.last

  -- two closed chains that begin at one time begin at one place
  pub same_starts : (x y : Chain P) → IsClosed shape x → IsClosed shape y → x.from.at ≈ y.from.at → Same x.from y.from
  same_starts x y a b e = (e, a.first ∙ sym b.first)

  -- and end at one where they end at one time
  pub same_stops : (x y : Chain P) → IsClosed shape x → IsClosed shape y → (chains.stop x).at ≈ (chains.stop y).at → Same (chains.stop x) (chains.stop y)
  same_stops x y a b e = (e, a.last ∙ sym b.last)

  -- what is told between the places of a closed chain is told from its first time to its last one
  pub closed_told : (F : Function) (x r : Chain P) → IsClosed shape x → chains.Tells shape F x.from (chains.stop x) r
      → chains.Tells shape F (before x.from.at) (after (chains.stop x).at) r
  closed_told F x r closed tells = subst (λ c. chains.Tells shape F c (after (chains.stop x).at) r) (first_place x closed)
      (subst (λ c. chains.Tells shape F x.from c r) (last_place x closed) tells)
