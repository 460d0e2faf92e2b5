-- The setting in which each chain is what an atom is read by: by a plain list of knots of its own, which says what the chain is worth.
use Rattle.std.proofs.Common.{◌≡◌, ◌⊎◌, inl, inr, ℕ, Bool, true, false, pos, List, [], ◌∷◌, map, Some, refl, sym, subst, ◌∙◌}
use Rattle.std.specs.Prelude.{slice_get, MatchBool}
use Rattle.std.proofs.lemmas.Bool.{false≢true}
use Rattle.std.proofs.lemmas.Option.{same_Some}
use Rattle.rational.specs.Time.{Rational, whole, ◌≤ʳ◌, ◌<ʳ◌, ◌≈◌}
use Rattle.rational.specs.Extended.{Extended, finite, value_at, ◌≈ᵉ◌, Passes}
use Rattle.rational.specs.Knots as plain
use Rattle.rational.specs.Knots.{Knots, ReadsFrom, Reads}
use Rattle.rational.specs.Places.{Place, After, Upto, Before, Same}
use Rattle.rational.proofs.AffineLemmas.{same_reflᵉ, same_symᵉ, same_transᵉ, value_same}
use Rattle.rational.proofs.Events.{same_by_two}
use Rattle.rational.proofs.Order.{le_of_same, ge_of_same, le_trans, lt_of_le_of_lt, lt_of_lt_of_le, lt_or_same_or_gt, lt_trans, not_lt_of_le, same_sym}
use Rattle.rational.proofs.PlaceLemmas.{after_same, upto_same}
use Rattle.value_laws.specs.Members.{ShapeOf}
use Rattle.pieces.specs.declared.piece.Piece.{Piece}
use Rattle.pieces.specs.Chains.{Chain, IsNormal, IsWorth, IsWorthFrom, Rise, end, stop, stop_from}
use Rattle.pieces.specs.Knots.{before, after}
use Rattle.pieces.proofs.ChainLemmas.{worth_after, worth_upto}
use Rattle.pieces.proofs.Ends.{after_le, after_of_lt, upto_le, upto_of_lt}
use Rattle.stl_syntax.specs.Formula.{atom}
use Rattle.stl_syntax.specs.SupInf.{Setting, signals}
use Rattle.stl_syntax.specs.declared.atom.Atom.{Atom}
use Rattle.offline_eval.specs.Forms.{IsClosed, of_pieces}
use Rattle.offline_eval.specs.Inputs.{IsInput}
use Rattle.offline_eval.specs.Making.{TellsValue}
use Rattle.offline_eval.proofs.PlainAtoms.{got_mapped}

-- the time of a place that is just before it lies behind the place
pub after_own : (c : Place) (t : Rational) → c.after ≡ false → t ≈ c.at → After c t
after_own c t f e = subst (λ b. MatchBool b (c.at <ʳ t) (c.at ≤ʳ t)) (sym f) (ge_of_same e)

-- and before each later place
pub upto_later : (c d : Place) (t : Rational) → Before c d → t ≈ c.at → Upto d t
upto_later c d t (inl l) e = upto_of_lt d t (lt_of_le_of_lt (le_of_same e) l)
upto_later c d t (inr (s, f, g)) e = subst (λ b. MatchBool b (t ≤ʳ d.at) (t <ʳ d.at)) (sym g) (le_trans (le_of_same e) (le_of_same s))

-- that of one just after it lies before that place, and behind each earlier one
upto_own : (c : Place) (t : Rational) → c.after ≡ true → t ≈ c.at → Upto c t
upto_own c t f e = subst (λ b. MatchBool b (t ≤ʳ c.at) (t <ʳ c.at)) (sym f) (le_of_same e)

after_earlier : (c d : Place) (t : Rational) → Before c d → t ≈ d.at → After c t
after_earlier c d t (inl l) e = after_of_lt c t (lt_of_lt_of_le l (ge_of_same e))
after_earlier c d t (inr (s, f, g)) e = subst (λ b. MatchBool b (c.at <ʳ t) (c.at ≤ʳ t)) (sym f) (le_trans (le_of_same s) (ge_of_same e))

-- just before a time no time lies with it
not_own : (c : Place) (t : Rational) → c.after ≡ false → Upto c t → ¬ (c.at ≤ʳ t)
not_own c t f u h = not_lt_of_le h (subst (λ b. MatchBool b (t ≤ʳ c.at) (t <ʳ c.at)) f u)

-- nor behind just after it
not_behind : (c : Place) (t : Rational) → c.after ≡ true → After c t → ¬ (t ≤ʳ c.at)
not_behind c t f a h = not_lt_of_le h (subst (λ b. MatchBool b (c.at <ʳ t) (c.at ≤ʳ t)) f a)

-- the one of two values
abbrev either_value : Bool → Extended → Extended → Extended
either_value true v w = v
either_value false v w = w

module _ {P : Type 0} (shape : ShapeOf P) where
  -- the value at a place where the pieces behind it begin; v, where there is none
  abbrev value_from : Extended → Place → List (Piece P) → Extended
  value_from v c [] = v
  value_from v c (p ∷ ps) = value_at (shape.function p.shape) c.at

  -- the value at the end of a piece, which is its own or that of the next one
  abbrev value_to : Piece P → List (Piece P) → Extended
  value_to p ps = either_value (end p).after (value_at (shape.function p.shape) (end p).at)
      (value_from (value_at (shape.function p.shape) (end p).at) (end p) ps)

  -- the plain pieces behind a place
  abbrev plain_from : Place → List (Piece P) → List plain.Piece
  plain_from c [] = []
  plain_from c (p ∷ ps) = record {
    from = value_at (shape.function p.shape) c.at;
    to = value_at (shape.function p.shape) (end p).at;
    next = record { time = (end p).at; value = value_to p ps };
  } ∷ plain_from (end p) ps

  -- the plain list of a chain
  abbrev pub knots_of_chain : Chain P → Knots
  knots_of_chain x = record {
    first = record { time = x.from.at; value = value_from (finite (whole (pos 0))) x.from x.pieces };
    pieces = plain_from x.from x.pieces;
  }

  passes_at : (p : Piece P) (t u : Rational) (v : Extended) → t ≈ u → v ≈ᵉ value_at (shape.function p.shape) u → Passes (shape.function p.shape) t v
  passes_at p t u v e h = same_transᵉ v (value_at (shape.function p.shape) u) (value_at (shape.function p.shape) t) h
      (value_same (shape.function p.shape) (same_sym e))

  -- what the plain pieces give is what the chain's are worth, or the value of the first knot
  worth_of_reads : (kv : Extended) (c : Place) (ps : List (Piece P)) (t : Rational) (v : Extended) (W : Type 0) → Rise c ps
      → (stop_from c ps).after ≡ true → ((t ≈ c.at) × (v ≈ᵉ kv) → W) → (IsWorthFrom shape c ps t v → W)
      → ReadsFrom (record { time = c.at; value = kv }) (plain_from c ps) t v → W
  worth_of_reads kv c [] t v W rise last here on h = here h
  worth_of_reads kv c (p ∷ ps) t v W rise last here on (inl h) = here h
  worth_of_reads kv c (p ∷ ps) t v W rise last here on (inr (inl is)) =
      let f = shape.function p.shape in
      let same = same_by_two f is.through c.at (end p).at (lt_trans is.after is.before) is.from is.to in
      on (inl (
        after_of_lt c t is.after,
        upto_of_lt (end p) t is.before,
        same_transᵉ v (value_at is.through t) (value_at f t) is.value (same_symᵉ (value_at f t) (value_at is.through t) (same t)),
      ))
  worth_of_reads kv c (p ∷ ps) t v W rise last here on (inr (inr h)) =
      worth_of_reads (value_to p ps) (end p) ps t v W rise.1 last (λ k. at_end ps (λ w. on (inr w)) rise.1 last (end p).after refl k.0 k.1)
      (λ w. on (inr w)) h
    where
      at_end : (qs : List (Piece P)) → (IsWorthFrom shape (end p) qs t v → W) → Rise (end p) qs → (stop_from (end p) qs).after ≡ true → (b : Bool)
          → (end p).after ≡ b → t ≈ (end p).at
          → v ≈ᵉ either_value b (value_at (shape.function p.shape) (end p).at) (value_from (value_at (shape.function p.shape) (end p).at) (end p) qs)
          → W
      at_end qs next up to true e same h = on (inl (after_earlier c (end p) t rise.0 same, upto_own (end p) t e same, passes_at p t (end p).at v same h))
      at_end [] next up to false e same h = absurd (false≢true (sym e ∙ to))
      at_end (q ∷ qs) next up to false e same h = next (inl (
        after_own (end p) t e same,
        upto_later (end p) (end q) t up.0 same,
        passes_at q t (end p).at v same h,
      ))

  reads_here : {k : plain.Knot} (ps : List plain.Piece) (t : Rational) (v : Extended) → t ≈ k.time → v ≈ᵉ k.value → ReadsFrom k ps t v
  reads_here [] t v e h = (e, h)
  reads_here (p ∷ ps) t v e h = inl (e, h)

  -- the value is that of the first piece behind the place, where there is one
  abbrev BeginsBy : Extended → Place → List (Piece P) → Type 0
  BeginsBy v c [] = Unit {0}
  BeginsBy v c (p ∷ ps) = v ≈ᵉ value_at (shape.function p.shape) c.at

  begins_by : (v : Extended) (c : Place) (ps : List (Piece P)) → BeginsBy (value_from v c ps) c ps
  begins_by v c [] = tt
  begins_by v c (p ∷ ps) = same_reflᵉ (value_at (shape.function p.shape) c.at)

  -- and the plain pieces give what the chain's are worth
  reads_of_worth : (kv : Extended) (c : Place) (ps : List (Piece P)) (t : Rational) (v : Extended) → (c.after ≡ false → BeginsBy kv c ps)
      → IsWorthFrom shape c ps t v → ReadsFrom (record { time = c.at; value = kv }) (plain_from c ps) t v
  reads_of_worth kv c [] t v first w = absurd w
  reads_of_worth kv c (p ∷ ps) t v first (inr w) = inr (inr (reads_of_worth (value_to p ps) (end p) ps t v (next (end p).after refl) w))
    where
      next : (b : Bool) → (end p).after ≡ b → b ≡ false → BeginsBy (value_to p ps) (end p) ps
      next true e f = absurd (false≢true (sym f))
      next false e f = subst (λ b. BeginsBy (either_value b (value_at (shape.function p.shape) (end p).at)
          (value_from (value_at (shape.function p.shape) (end p).at) (end p) ps)) (end p) ps) (sym e)
          (begins_by (value_at (shape.function p.shape) (end p).at) (end p) ps)
  reads_of_worth kv c (p ∷ ps) t v first (inl (a, u, passes)) = by_begin (lt_or_same_or_gt c.at t)
    where
      at_begin : (b : Bool) → c.after ≡ b → c.at ≈ t → ReadsFrom (record { time = c.at; value = kv }) (plain_from c (p ∷ ps)) t v
      at_begin true e same = absurd (not_behind c t e a (ge_of_same same))
      at_begin false e same =
          let f = shape.function p.shape in
          inl (
            same_sym same,
            same_transᵉ v (value_at f t) kv passes (same_symᵉ kv (value_at f t)
                (same_transᵉ kv (value_at f c.at) (value_at f t) (first e) (value_same f same))),
          )

      at_end : (b : Bool) → (end p).after ≡ b → t ≈ (end p).at → ReadsFrom (record { time = c.at; value = kv }) (plain_from c (p ∷ ps)) t v
      at_end false e same = absurd (not_own (end p) t e u (ge_of_same same))
      at_end true e same =
          let f = shape.function p.shape in
          let own = value_at f (end p).at in
          inr (inr (reads_here (plain_from (end p) ps) t v same (subst (λ b. v ≈ᵉ either_value b own (value_from own (end p) ps)) (sym e)
          (same_transᵉ v (value_at f t) own passes (value_same f same)))))

      by_end : c.at <ʳ t → (t <ʳ (end p).at) ⊎ (t ≈ (end p).at) ⊎ ((end p).at <ʳ t) → ReadsFrom (record { time = c.at; value = kv }) (plain_from c (p ∷ ps)) t v
      by_end l (inl r) = inr (inl (record {
        after = l;
        before = r;
        through = shape.function p.shape;
        from = same_reflᵉ (value_at (shape.function p.shape) c.at);
        to = same_reflᵉ (value_at (shape.function p.shape) (end p).at);
        value = passes;
      }))
      by_end l (inr (inl same)) = at_end (end p).after refl same
      by_end l (inr (inr r)) = absurd (not_lt_of_le (upto_le (end p) t u) r)

      by_begin : (c.at <ʳ t) ⊎ (c.at ≈ t) ⊎ (t <ʳ c.at) → ReadsFrom (record { time = c.at; value = kv }) (plain_from c (p ∷ ps)) t v
      by_begin (inl l) = by_end l (lt_or_same_or_gt t (end p).at)
      by_begin (inr (inl same)) = at_begin c.after refl same
      by_begin (inr (inr r)) = absurd (not_lt_of_le (after_le c t a) r)

  -- read at a time the plain list of a closed chain gives what the chain is worth there
  pub chain_reads : (x : Chain P) (t : Rational) (v : Extended) → IsNormal shape x → IsClosed shape x
      → (Reads (knots_of_chain x) t v → IsWorth shape x t v) × (IsWorth shape x t v → Reads (knots_of_chain x) t v)
  chain_reads x t v normal closed = (
    worth_of_reads (value_from none x.from x.pieces) x.from x.pieces t v (IsWorth shape x t v) normal.rising closed.last (λ h. first x.pieces normal.rising
        closed.last h.0 h.1) (λ w. w),
    reads_of_worth (value_from none x.from x.pieces) x.from x.pieces t v (λ f. begins_by none x.from x.pieces),
  )
    where
      none : Extended
      none = finite (whole (pos 0))

      first : (ps : List (Piece P)) → Rise x.from ps → (stop_from x.from ps).after ≡ true → t ≈ x.from.at → v ≈ᵉ value_from none x.from ps
          → IsWorthFrom shape x.from ps t v
      first [] rise last e h = absurd (false≢true (sym closed.first ∙ last))
      first (p ∷ ps) rise last e h = inl (after_own x.from t closed.first e, upto_later x.from (end p) t rise.0 e, passes_at p t x.from.at v e h)

  -- the setting in which the atom at each place is read by the chain there
  abbrev pub chains_setting : ℕ → ℕ → List (Chain P) → Setting
  chains_setting from to xs = record {
    atoms = signals (map (λ x. Some (knots_of_chain x)) xs);
    lowest = shape.lowest;
    highest = shape.highest;
    from = whole (pos from);
    to = whole (pos to);
  }

  -- each chain over the domain tells its atom
  pub plain_chain_told : (from to : ℕ) (xs : List (Chain P)) (k : ℕ) (a : Atom) (x : Chain P) → slice_get xs k ≡ Some x → IsNormal shape x
      → IsInput (of_pieces shape) from to x → TellsValue (of_pieces shape) (chains_setting from to xs) (atom k a) x
  plain_chain_told from to xs k a x at normal input =
      let lists = map (λ x. Some (knots_of_chain x)) xs in
      let place : slice_get lists k ≡ Some (Some (knots_of_chain x)) = got_mapped (λ x. Some (knots_of_chain x)) xs k x at in
      let begins : Same x.from (before (whole (pos from))) = (input.begins, input.limited.first) in
      let ends : Same (stop x) (after (whole (pos to))) = (input.ends, input.limited.last) in
      record {
        normal = normal;
        begins = begins;
        ends = ends;
        worth = λ t v. (
          λ w. (
            after_same x.from (before (whole (pos from))) t begins (worth_after shape x.from x.pieces t v normal.rising w),
            upto_same (stop x) (after (whole (pos to))) t ends (worth_upto shape x.from x.pieces t v normal.rising w),
            (knots_of_chain x, place, (chain_reads x t v normal input.limited).1 w),
          ),
          λ (b, u, (ks, there, reads)).
              let same : ks ≡ knots_of_chain x = same_Some _ _ (same_Some _ _ (sym there ∙ place)) in
              (chain_reads x t v normal input.limited).0 (subst (λ l. Reads l t v) same reads),
        );
      }
