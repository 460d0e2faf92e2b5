-- Pieces that tell an atom up to where they end, and all of it.
use Rattle.std.proofs.Common.{◌≡◌, ◌<◌, ◌^◌, ◌⊎◌, inl, inr, ℕ, [], Some, sym, subst, ap, zero-add}
use Rattle.std.specs.Prelude.{slice_get}
use Rattle.rational.specs.Time.{Rational}
use Rattle.rational.specs.Extended.{Extended, Passes, value_at}
use Rattle.rational.specs.Affine.{IsBounded}
use Rattle.rational.specs.Places.{After, Same, Upto}
use Rattle.rational.proofs.AffineLemmas.{bounded_same}
use Rattle.rational.proofs.Mixed.{tick_within}
use Rattle.frac128.specs.Cuts.{place}
use Rattle.frac128.specs.declared.cut.Cut.{Cut}
use Rattle.value_laws.specs.Members.{ShapeOf}
use Rattle.stl_syntax.specs.Trace as trace
use Rattle.stl_syntax.specs.Trace.{Trace, first_time, last_time}
use Rattle.stl_syntax.specs.SupInf.{Gives}
use Rattle.stl_syntax.specs.declared.atom.Atom.{Atom}
use Rattle.atom_lines.specs.Binding.{Binding, IsFor}
use Rattle.atom_lines.specs.Growing.{IsRowBase}
use Rattle.atom_lines.specs.How.{How, reading_of}
use Rattle.atom_lines.specs.Passages.{HasBlock}
use Rattle.atom_lines.proofs.Readings.{given_is_function}
use Rattle.pieces.specs.Building.{GoesOn}
use Rattle.pieces.specs.Chains.{Chain, HasShape, IsWorth, stop}
use Rattle.pieces.specs.Knots.{before, after}
use Rattle.pieces.proofs.ChainsTell.{TellsSoFar, tells_none, tells_on, told}
use Rattle.atom_pieces.specs.AtomChains.{IsAtomChain}

-- a trace stands in itself
pub whole_block : (tr : Trace) → HasBlock tr tr
whole_block tr = record { place = 0; rows = λ k r e. subst (λ n. slice_get tr.rows n ≡ Some r) (sym (zero-add k)) e }

module _ {P : Type 0} (shape : ShapeOf P) (read_as : How) (b : Binding) (i : ℕ) (tr : Trace) where
  -- the pieces tell the atom from just before the first row's time up to where they end
  pub record HasGrown (chain : Chain P) : Type 0 where
    -- they begin there
    pub begins : Same chain.from (before (trace.start tr))
    -- each base is a time of a row, or 0
    pub bases : (p : P) → HasShape chain p → IsRowBase (shape.base p)
    -- values are within their limit
    pub small : (t : Rational) (v : Extended) → IsWorth shape chain t v → IsBounded (2 ^ 31) v
    -- and they are those of the atom
    pub tells : (a : Atom) → IsFor b i a tr → TellsSoFar shape (Gives (reading_of read_as tr) i a) chain

  -- no piece has told anything yet
  pub grown_none : (chain : Chain P) → chain.pieces ≡ [] → Same chain.from (before (trace.start tr)) → HasGrown chain
  grown_none chain none begins = record {
    begins = begins;
    bases = λ p h. absurd (subst (λ x. HasShape x p) e h);
    small = λ t v h. absurd (subst (λ x. IsWorth shape x t v) e h);
    tells = λ a for. tells_none shape (Gives (reading_of read_as tr) i a) chain.from chain e;
  }
    where
      e : chain ≡ record { from = chain.from; pieces = [] }
      e = ap (λ ps. record { from = chain.from; pieces = ps }) none

  -- what the shape is worth from where the pieces end up to a place
  pub record IsOfAtom (old : Chain P) (until : Cut) (more : P) : Type 0 where
    -- its base is a time of a row, or 0
    pub base : IsRowBase (shape.base more)
    -- its values are within their limit
    pub small : (t : Rational) → After (stop old) t → Upto (place until) t → IsBounded (2 ^ 31) (value_at (shape.function more) t)
    -- and they are those of the atom
    pub worth : (a : Atom) → IsFor b i a tr → (t : Rational) → After (stop old) t → Upto (place until) t
        → Gives (reading_of read_as tr) i a t (value_at (shape.function more) t)

  -- so the pieces that go on with it tell the atom up to that place
  pub grown_on : {old new : Chain P} {until : Cut} {more : P} → HasGrown old → GoesOn shape old until more new → IsOfAtom old until more → HasGrown new
  grown_on {old} {new} {until} {more} grown on is = record {
    begins = subst (λ c. Same c (before (trace.start tr))) (sym on.begins) grown.begins;
    bases = λ p h. by_shape p (on.shapes p h);
    small = λ t v h. by_part t v ((on.worth t v).0 h);
    tells = λ a for. tells_on shape (Gives (reading_of read_as tr) i a) (given_is_function read_as tr i a) (grown.tells a for) on (is.worth a for);
  }
    where
      by_shape : (p : P) → HasShape old p ⊎ (p ≡ more) → IsRowBase (shape.base p)
      by_shape p (inl h) = grown.bases p h
      by_shape p (inr h) = subst (λ q. IsRowBase (shape.base q)) (sym h) is.base

      by_part : (t : Rational) (v : Extended) → IsWorth shape old t v ⊎ (After (stop old) t × Upto (place until) t × Passes (shape.function more) t v)
          → IsBounded (2 ^ 31) v
      by_part t v (inl h) = grown.small t v h
      by_part t v (inr h) = bounded_same (2 ^ 31) v (value_at (shape.function more) t) h.2 (is.small t h.0 h.1)

  -- pieces that tell the atom up to just after the last row's time are those of the atom
  pub grown_whole : (chain : Chain P) → first_time tr.rows < 2 ^ 32 → last_time 0 tr.rows < 2 ^ 32 → HasGrown chain
      → Same (stop chain) (after (trace.stop tr)) → IsAtomChain shape (reading_of read_as) b i tr chain
  grown_whole chain few_first few_last grown ends = record {
    begins = grown.begins;
    ends = ends;
    tells = λ a for. told shape (Gives (reading_of read_as tr) i a) (before (trace.start tr)) (after (trace.stop tr)) chain (given_is_function read_as tr i a)
        (grown.tells a for) grown.begins ends;
    bases = grown.bases;
    limited = record {
      begins = tick_within (first_time tr.rows) few_first grown.begins.0;
      ends = tick_within (last_time 0 tr.rows) few_last ends.0;
      values = grown.small;
    };
  }
