-- Functions that agree on a domain, and what is told by the one and by the other.
use Rattle.rational.specs.Time.{Rational, Within, ◌≈◌}
use Rattle.rational.specs.Extended.{Extended}
use Rattle.rational.specs.Windows.{Function}
use Rattle.rational.proofs.Order.{le_trans, le_of_same, ge_of_same, same_trans}
use Rattle.pieces.proofs.Stretches.{within_same_ends}
use Rattle.offline_eval.specs.Forms.{Form}
use Rattle.offline_eval.proofs.Forms.{FormLaws, IsTold}

-- the functions are one between the two times
abbrev pub AgreeOn : Rational → Rational → Function → Function → Type 0
AgreeOn from to F G = (t : Rational) (v : Extended) → Within from to t → (F t v → G t v) × (G t v → F t v)

module _ {X P : Type 0} {form : Form X P} (laws : FormLaws form) where
  -- a signal that tells the one tells the other
  pub tells_along : (F G : Function) (from to from' to' : Rational) (x : X) → form.Tells F from to x → from ≈ from' → to ≈ to'
      → AgreeOn from' to' F G → form.Tells G from' to' x
  tells_along F G from to from' to' x tells b e agree = laws.retold F G from to from' to' x tells (record {
    begins = same_trans is.begins b;
    ends = same_trans is.ends e;
    worth = λ t v. (λ w. forth t v ((is.worth t v).0 w), λ (i, g). (is.worth t v).1 (within_back t i, (agree t v i).1 g));
  })
    where
      is : IsTold form F from to x
      is = laws.told F from to x tells

      forth : (t : Rational) (v : Extended) → Within from to t × F t v → Within from' to' t × G t v
      forth t v (i, f) = let j = within_same_ends b e i in (j, (agree t v j).0 f)

      within_back : (t : Rational) → Within from' to' t → Within from to t
      within_back t w = record { above = le_trans (le_of_same b) w.above; below = le_trans w.below (ge_of_same e) }
