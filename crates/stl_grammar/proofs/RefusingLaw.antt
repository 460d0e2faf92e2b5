-- A parser refuses a token as the refusals say.
use Rattle.std.proofs.Common.{◌≡◌, ℕ, ◌+◌, ◌-◌, ◌<◌, ◌≤◌, List, [], ◌∷◌, length, refl, sym, ap}
use Rattle.std.proofs.Common.{◌∙◌, subst, Bool, true, false, if◌then◌else◌, arith, inl, inr, ◌⊎◌}
use Rattle.std.specs.Prelude.{nat_le, nat_lt, ◌||◌, ◌&&◌, not, Option, Some, None, option_map, IsTrue, MatchBool, codes}
use Rattle.std.proofs.lemmas.Bool.{or_from}
use Rattle.std.proofs.lemmas.Bool.Decides.{nat_tests}
use Rattle.std.proofs.lemmas.List.{take_at, length-append, length-drop}
use Rattle.std.proofs.lemmas.Option.{same_Some}
use Rattle.std.proofs.Math.Bool.{or-false}
use Rattle.stl_syntax.specs.Characters.{is_among}
use Rattle.stl_syntax.specs.Choice.{◌or_else◌, Where}
use Rattle.stl_syntax.specs.Names.{is_name}
use Rattle.stl_grammar.specs.Tokens.{Token, word, number}
use Rattle.stl_grammar.specs.FormulaRefusals.{MayBegin, RefusedAt, has_paren, pending, nodes_made, expected}
use Rattle.stl_grammar.specs.FormulaRefusals.{is_unbounded, begins_fifth_term, is_bad_number, is_out_of_order}
use Rattle.stl_grammar.specs.FormulaRefusals.{begins_future_bound, passes_limit, opens_bound, ahead}
use Rattle.stl_grammar.specs.Spelling.{Spells, IsLarge}
use Rattle.stl_syntax.specs.declared.scale.Scale.{Scale}
use Rattle.stl_grammar.specs.Machine.{State, kind, run, step, ranks, pending_of, bound_of, pending_in, expected_at, fifth_at, disorder_at, future_at}
use Rattle.stl_grammar.specs.States.{place_in, frames_in, state_in}
use Rattle.stl_grammar.specs.Parsing.{Parse, parse_step, between, IsKnown}
use Rattle.stl_grammar.specs.Refusing.{refused, refused_after, late_in, unbounded_in, fifth_in, bad_in}
use Rattle.stl_grammar.specs.Refusing.{disorder_in, future_in, expected_in, depth_of, number_in}
use Rattle.stl_grammar.specs.Taken.{plain}
use Rattle.stl_grammar.proofs.ParserStates.{Alike, number_alike, step_in, ranks_same, known_kind}
use Rattle.stl_grammar.proofs.RefusalExamples.{passed, not_refused}
use Rattle.stl_grammar.proofs.WordKinds.{is_inf, looks_ahead, timed_kind, among_ahead, among_inf}
use Rattle.stl_grammar.proofs.MachineBegins.{step_begins}
use Rattle.stl_grammar.proofs.MachineRuns.{step_stops, step_runs}
use Rattle.stl_grammar.proofs.MachineView.{run_expected, run_pending, run_nodes, run_bad_number, run_fifth, run_disorder, run_future}
use Rattle.stl_grammar.specs.declared.decimal.Decimal.{Decimal}
use Rattle.stl_grammar.specs.Operators.{by_and, looks_back, timed_word}
use Rattle.stl_grammar.specs.declared.token.Keyword.TheVariants.{Constant as ConstantWord, Connective as ConnectiveWord, Timed as TimedWord, Inf}
use Rattle.stl_grammar.specs.declared.token.Token.{Token as Code}
use Rattle.stl_grammar.specs.declared.token.Token.TheVariants.{Keyword as IsKeyword, Name, Number}
use Rattle.stl_grammar.specs.declared.place.Place.{Place}
use Rattle.stl_grammar.specs.declared.place.Place.TheVariants.{High}
use Rattle.stl_grammar.specs.declared.place.Place.TheVariants.{Sign, End}
use Rattle.stl_grammar.specs.declared.fault.What.{What}
use Rattle.stl_grammar.specs.declared.fault.What.TheVariants.{Operand as WhatOperand}
use Rattle.stl_grammar.specs.declared.fault.What.TheVariants.{Paren as WhatParen, End as WhatEnd}
use Rattle.stl_grammar.specs.declared.fault.FormulaFault.{FormulaFault}
use Rattle.stl_grammar.specs.declared.fault.FormulaFault.TheVariants.{Expected, BadNumber, BoundOrder, UnboundedFuture, TooManyTerms, TooDeep, TooManyNodes}

-- the code spells a number past every limit
abbrev pub SpellsLarge : Code → Token → Type 0
SpellsLarge (Number d) t = (nat_le d.decimals 6 ≡ false) × IsLarge t
SpellsLarge _ t = ⊥

-- the code spells the token exactly, or a large number
pub spells_plain : (text : List ℕ) (c : Code) (t : Token) → Spells text c t → (t ≡ plain text c) ⊎ SpellsLarge c t
spells_plain text (Name from to) t (name, e, at) =
    let size : to - from ≡ length name = omega (arith, at.ends) in
    let same : between from to text ≡ name = rw (size, at.stands) (take_at name at.after (length name) refl) in
    inl (e ∙ ap word (sym same))
spells_plain text (Number d) t h = by_size (nat_le d.decimals 6) refl h
  where
    by_size : (q : Bool) → nat_le d.decimals 6 ≡ q → MatchBool q (t ≡ number d.value d.decimals) (IsLarge t)
        → (t ≡ plain text (Number d)) ⊎ SpellsLarge (Number d) t
    by_size true e h = inl h
    by_size false e h = inr (e, h)
spells_plain text _ t h = inl h

-- a name that the code spells stands in the text
some_name : (w : List ℕ) → IsTrue (is_name w) → 0 < length w
some_name [] h = absurd (cc)
some_name (c ∷ w) h = omega arith

-- a token that is spelled is known
pub spells_known : (text : List ℕ) (c : Code) (t : Token) → Spells text c t → IsKnown text c
spells_known text (Name from to) t (name, e, at) =
    let size : to - from ≡ length name = omega (arith, at.ends) in
    let same : between from to text ≡ name = rw (size, at.stands) (take_at name at.after (length name) refl) in
    let long : length text - from ≡ length name + length at.after = sym (length-drop from text) ∙ ap length at.stands ∙ length-append name at.after in
    (omega (arith, at.ends), omega (arith, at.ends, long, some_name name at.good), subst (λ w. IsTrue (is_name w)) (sym same) at.good)
spells_known text _ t h = tt

future_same : (place : Place) → future_at (place_in place) ≡ future_in place
future_same (High of x low) = refl
future_same _ = refl

-- the machine's state before any digits
abbrev pub no_digits : Scale
no_digits = record { time = 0; value = 0 }

-- what is expected is that of the place
pub expected_same : (p : Parse) → expected_at (place_in p.place) (ranks (frames_in no_digits p.frames)) ≡ expected_in p
expected_same p = ap (λ z. expected_at (place_in p.place) z) (ranks_same no_digits p.frames)

passes_end : (b : Bool) (n k : ℕ) → passes_limit (if b then WhatParen else WhatEnd) n k ≡ (nat_lt 0 k || nat_lt 16 n)
passes_end true n k = refl
passes_end false n k = refl

passes_same : (place : Place) (rs : List ℕ) (n k : ℕ) → passes_limit (expected_at (place_in place) rs) n k ≡ passes_limit (number_in place) n k
passes_same End rs n k = passes_end (has_paren (pending_of rs)) n k
passes_same _ rs n k = refl

-- a large number passes each limit
passes_large : (what : What) (n k : ℕ) → IsTrue (nat_lt 6 k || nat_lt 4294967295 n) → passes_limit what n k ≡ true
passes_large WhatOperand n k h = grind (arith, nat_tests, h)
passes_large _ n k h = grind (arith, nat_tests, h)

code_passes : (what : What) (v d : ℕ) → nat_le d 6 ≡ false → passes_limit what v d ≡ true
code_passes what v d h = passes_large what v d (let e : nat_lt 6 d ≡ true = grind (arith, nat_tests, h) in rw e refl)

fifth_same : (text : List ℕ) (place : Place) (n : ℕ) (c : Code) → fifth_at (place_in place) n (plain text c) ≡ fifth_in place n c
fifth_same text Sign n (IsKeyword w) = refl
fifth_same text _ n _ = refl

disorder_same : (text : List ℕ) (place : Place) (c : Code) → disorder_at (place_in place) (plain text c) ≡ disorder_in place c
disorder_same text (High of i low) (IsKeyword w) = refl
disorder_same text _ _ = refl

fifth_number : (place : Place) (m : ℕ) (n k : ℕ) (d : Decimal) → fifth_at (place_in place) m (number n k) ≡ fifth_in place m (Number d)
fifth_number Sign m n k d = refl
fifth_number _ m n k d = refl

-- what operators look ahead
unbounded_same : (text rest : List ℕ) (before : List Token) (place : Place) (c : Code) → IsKnown text c → begins_future_bound before ≡ future_in place
    → is_unbounded before (plain text c) rest ≡ unbounded_in place c rest
unfolding kind
unbounded_same text rest before place (IsKeyword (TimedWord of)) k f =
    let a : is_among (timed_word of) ahead ≡ not (looks_back of) = among_ahead (timed_word of) ∙ ap looks_ahead (timed_kind of) in
    let b : is_among (timed_word of) (codes "inf" ∷ []) ≡ false = among_inf (timed_word of) ∙ ap is_inf (timed_kind of) in
    rw (a, b) (or-false (not (looks_back of) && not (opens_bound (timed_word of) rest)))
unbounded_same text rest before place (IsKeyword (ConnectiveWord by_and)) k f = refl
unbounded_same text rest before place (IsKeyword (ConstantWord true)) k f = refl
unbounded_same text rest before place (IsKeyword Inf) k f = f
unbounded_same text rest before place (Name from to) k f =
    let e = known_kind text from to k in
    let a : is_among (between from to text) ahead ≡ false = rw (among_ahead (between from to text), e) refl in
    let b : is_among (between from to text) (codes "inf" ∷ []) ≡ false = rw (among_inf (between from to text), e) refl in
    rw (a, b) refl
unbounded_same text rest before place _ k f = refl

-- of two refusals in order, the first where its test says so
pub choose : {A : Type 0} (P : Type 0) (a : A) (G : A → Type 0) (b : Bool) → (b ≡ true → P) → (b ≡ false → ¬ P)
    → (rest : Option A) → ((r : A) → rest ≡ Some r → G r)
    → (r : A) → (if b then Some a else rest) ≡ Some r → (Where P a or_else G) r
choose P a G true y n rest g r e = inl (y refl, cc)
choose P a G false y n rest g r e = inr (passed P a (n refl), g r e)

last_one : {A : Type 0} (P : Type 0) (a : A) (b : Bool) → (b ≡ true → P) → (r : A) → (if b then Some a else None) ≡ Some r → Where P a r
last_one P a true y r e = (y refl, cc)
last_one P a false y r e = absurd (cc)

none_of : {A : Type 0} (a : A) (b : Bool) (rest : Option A) → (if b then Some a else rest) ≡ None → (b ≡ false) × (rest ≡ None)
none_of a true rest e = absurd (cc)
none_of a false rest e = (refl, e)

-- what holds where a token is spelled exactly, and of large numbers, holds of each that is spelled
by_spelling : (text : List ℕ) (P : Code → Token → Type 0) → ((c : Code) → IsKnown text c → P c (plain text c))
    → ((d : Decimal) (n k : ℕ) → nat_le d.decimals 6 ≡ false → IsTrue (nat_lt 6 k || nat_lt 4294967295 n) → P (Number d) (number n k))
    → (c : Code) (t : Token) → Spells text c t → P c t
by_spelling text P exact large c t h = by_kind (spells_plain text c t h)
  where
    past : (c : Code) → SpellsLarge c t → P c t
    past (Number d) (e, (n, k, f, l)) = rw f (large d n k e l)
    past _ h = absurd h

    by_kind : (t ≡ plain text c) ⊎ SpellsLarge c t → P c t
    by_kind (inl e) = rw e (exact c (spells_known text c t h))
    by_kind (inr g) = past c g

-- a token is a number, or no bad one
number_or : (c : Code) → ((d : Decimal) × (c ≡ Number d)) ⊎ ((place : Place) → bad_in place c ≡ false)
number_or (Number d) = inl (d, refl)
number_or _ = inr (λ place. refl)

-- a token after tokens that led to the parser's state
module _ (text rest : List ℕ) (before : List Token) (p : Parse) (c : Code) (t : Token) (at : ℕ)
    (runs : (s : Scale) → run s before ≡ Some (state_in s p)) (spells : Spells text c t) where
  abbrev now : State
  now = state_in no_digits p

  known : IsKnown text c
  known = spells_known text c t spells

  stepped : Alike (option_map (state_in no_digits) (parse_step text p c)) (step no_digits now t)
  stepped = by_spelling text (λ c t. Alike (option_map (state_in no_digits) (parse_step text p c)) (step no_digits now t))
      (λ c k. elim (number_or c) [
        | inl (d, e) ↦ rw e (number_alike no_digits text p.place p.frames p.drafts p.terms p.made d d.value d.decimals)
        | inr g ↦ rw (step_in no_digits text p c k (g p.place)) (same (step no_digits now (plain text c)))
      ])
      (λ d n k e l. number_alike no_digits text p.place p.frames p.drafts p.terms p.made d n k) c t spells
    where
      same : (o : Option State) → Alike o o
      same None = tt
      same (Some a) = (refl, refl)

  stops : parse_step text p c ≡ None → ¬ MayBegin (t ∷ before)
  stops e = by_step (step no_digits now t) refl (rw e at stepped)
    where
      by_step : (o : Option State) → step no_digits now t ≡ o → Alike None o → ¬ MayBegin (t ∷ before)
      by_step None e h = step_stops no_digits before now t (runs no_digits) e
      by_step (Some next) e h = absurd h

  goes : (q : Parse) → parse_step text p c ≡ Some q → MayBegin (t ∷ before) × (length (pending (t ∷ before)) ≡ depth_of q) × (nodes_made (t ∷ before) ≡ q.made)
  goes q e = by_step (step no_digits now t) refl (rw e at stepped)
    where
      by_step : (o : Option State) → step no_digits now t ≡ o → Alike (Some (state_in no_digits q)) o
          → MayBegin (t ∷ before) × (length (pending (t ∷ before)) ≡ depth_of q) × (nodes_made (t ∷ before) ≡ q.made)
      by_step None e h = absurd h
      by_step (Some next) e h =
          let r : run no_digits (t ∷ before) ≡ Some next = step_runs no_digits before now t (runs no_digits) ∙ e in (
            step_begins no_digits before now next t (runs no_digits) e,
            ap length (run_pending no_digits (t ∷ before) next r) ∙ (ap length (sym h.0)
                ∙ ap (λ z. length (pending_in (bound_of (place_in q.place)) z)) (ranks_same no_digits q.frames)),
            run_nodes no_digits (t ∷ before) next r ∙ sym h.1,
          )

  unbounded : is_unbounded before t rest ≡ unbounded_in p.place c rest
  unbounded = by_spelling text (λ c t. is_unbounded before t rest ≡ unbounded_in p.place c rest)
      (λ c k. unbounded_same text rest before p.place c k (run_future no_digits before now (runs no_digits) ∙ future_same p.place))
      (λ d n k e l. refl) c t spells

  fifth : begins_fifth_term before t ≡ fifth_in p.place (length p.terms) c
  fifth = run_fifth no_digits before now (runs no_digits) t
      ∙ by_spelling text (λ c t. fifth_at (place_in p.place) (length p.terms) t ≡ fifth_in p.place (length p.terms) c)
      (λ c k. fifth_same text p.place (length p.terms) c) (λ d n k e l. fifth_number p.place (length p.terms) n k d) c t spells

  bad : is_bad_number before t ≡ bad_in p.place c
  bad = by_spelling text (λ c t. is_bad_number before t ≡ bad_in p.place c) (λ c k. exact c)
      (λ d n k e l. rw (code_passes (number_in p.place) d.value d.decimals e)
      (run_bad_number no_digits before now (runs no_digits) n k ∙ passes_large (expected_at now.place (ranks now.frames)) n k l)) c t spells
    where
      exact : (c : Code) → is_bad_number before (plain text c) ≡ bad_in p.place c
      exact (Number d) = run_bad_number no_digits before now (runs no_digits) d.value d.decimals ∙ passes_same p.place (ranks now.frames) d.value d.decimals
      exact _ = refl

  -- a number that is not refused is spelled exactly
  pub exact_where_good : bad_in p.place c ≡ false → t ≡ plain text c
  exact_where_good = by_spelling text (λ c t. bad_in p.place c ≡ false → t ≡ plain text c) (λ c k g. refl)
      (λ d n k e l g. absurd (let h = code_passes (number_in p.place) d.value d.decimals e in cc)) c t spells

  disorder : bad_in p.place c ≡ false → is_out_of_order before t ≡ disorder_in p.place c
  disorder g = run_disorder no_digits before now (runs no_digits) t ∙ rw (exact_where_good g) (disorder_same text p.place c)

  late : (r : FormulaFault) → late_in p.place (length p.terms) c at ≡ Some r
      → (Where (IsTrue (begins_fifth_term before t)) (TooManyTerms at)
      or_else Where (IsTrue (is_bad_number before t)) (BadNumber at)
      or_else Where (IsTrue (is_out_of_order before t)) (BoundOrder at)) r
  late =
      choose (IsTrue (begins_fifth_term before t)) (TooManyTerms at) _ (fifth_in p.place (length p.terms) c) (λ e. fifth ∙ e)
      (λ e h. let x = sym fifth ∙ h in cc) _
      (by_bad (bad_in p.place c) refl)
    where
      by_bad : (b : Bool) → bad_in p.place c ≡ b → (r : FormulaFault)
          → (if b then Some (BadNumber at) else if disorder_in p.place c then Some (BoundOrder at) else None) ≡ Some r
          → (Where (IsTrue (is_bad_number before t)) (BadNumber at) or_else Where (IsTrue (is_out_of_order before t)) (BoundOrder at)) r
      by_bad true e r h = inl (bad ∙ e, sym (same_Some _ _ h))
      by_bad false e r h =
          inr (
            passed (IsTrue (is_bad_number before t)) (BadNumber at) (λ x. let y = sym bad ∙ x in cc),
            last_one (IsTrue (is_out_of_order before t)) (BoundOrder at) (disorder_in p.place c) (λ d. disorder e ∙ d) r h,
          )

  -- what the parser refuses is refused
  pub refused_rightly : (r : FormulaFault) → refused text p c rest at ≡ Some r → RefusedAt before t rest at r
  refused_rightly =
      choose (IsTrue (is_unbounded before t rest)) (UnboundedFuture at) _ (unbounded_in p.place c rest) (λ e. unbounded ∙ e)
      (λ e h. let x = sym unbounded ∙ h in cc) _
      (by_step (parse_step text p c) refl)
    where
      deep : (q : Parse) → parse_step text p c ≡ Some q → nat_lt 64 (depth_of q) ≡ true → 64 < length (pending (t ∷ before))
      deep q e h = let g = (goes q e).1 in grind (arith, nat_tests, h, g)

      flat : (q : Parse) → parse_step text p c ≡ Some q → nat_lt 64 (depth_of q) ≡ false → ¬ (64 < length (pending (t ∷ before)))
      flat q e h l = let g = (goes q e).1 in let k : depth_of q ≤ 64 = grind (arith, nat_tests, h) in omega (arith, g, l)

      many : (q : Parse) → parse_step text p c ≡ Some q → nat_lt 256 q.made ≡ true → 256 < nodes_made (t ∷ before)
      many q e h = let g = (goes q e).2 in grind (arith, nat_tests, h, g)

      few : (q : Parse) → parse_step text p c ≡ Some q → nat_lt 256 q.made ≡ false → ¬ (256 < nodes_made (t ∷ before))
      few q e h l = let g = (goes q e).2 in let k : q.made ≤ 256 = grind (arith, nat_tests, h) in omega (arith, g, l)

      by_step : (o : Option Parse) → parse_step text p c ≡ o → (r : FormulaFault) → refused_after p c at o ≡ Some r
          → (Where (¬ MayBegin (t ∷ before)) (Expected at (expected before))
          or_else Where (64 < length (pending (t ∷ before))) (TooDeep at)
          or_else Where (256 < nodes_made (t ∷ before)) (TooManyNodes at)
          or_else Where (IsTrue (begins_fifth_term before t)) (TooManyTerms at)
          or_else Where (IsTrue (is_bad_number before t)) (BadNumber at)
          or_else Where (IsTrue (is_out_of_order before t)) (BoundOrder at)) r
      by_step None e r h =
          inl (stops e, sym (same_Some _ _ h) ∙ ap (Expected at) (sym (run_expected no_digits before now (runs no_digits) ∙ expected_same p)))
      by_step (Some q) e r h =
          inr (
            passed (¬ MayBegin (t ∷ before)) _ (λ n. n (goes q e).0),
            choose (64 < length (pending (t ∷ before))) (TooDeep at) _ (nat_lt 64 (depth_of q)) (deep q e) (flat q e) _
                (choose (256 < nodes_made (t ∷ before)) (TooManyNodes at) _ (nat_lt 256 q.made) (many q e) (few q e) _ late) r h,
          )

  -- what follows from no refusal
  pub record IsTaken (q : Parse) : Type 0 where
    -- the token, as the code has it
    pub exact : t ≡ plain text c
    -- the machine goes on by it
    pub next : (s : Scale) → run s (t ∷ before) ≡ Some (state_in s q)
    -- nothing refuses it
    pub free : (x : FormulaFault) → ¬ RefusedAt before t rest at x
    -- there is room for a node more
    pub few : q.made ≤ 256

  -- a token that the parser takes is refused by nothing
  pub taken : (q : Parse) → refused text p c rest at ≡ None → parse_step text p c ≡ Some q → IsTaken q
  taken q e f =
      let a = none_of _ _ _ e in
      let b : refused_after p c at (Some q) ≡ None = rw f at a.1 in
      let d = none_of _ _ _ b in
      let m = none_of _ _ _ d.1 in
      let l = none_of _ _ _ m.1 in
      let n = none_of _ _ _ l.1 in
      let o = none_of _ _ _ n.1 in
      let g = goes q f in
      let deep : depth_of q ≤ 64 = let x : nat_lt 64 (depth_of q) ≡ false = d.0 in grind (arith, nat_tests, x) in
      let made : q.made ≤ 256 = let x : nat_lt 256 q.made ≡ false = m.0 in grind (arith, nat_tests, x) in
      let same : t ≡ plain text c = exact_where_good n.0 in
      record {
        exact = same;
        next = λ s. step_runs s before (state_in s p) t (runs s)
            ∙ (ap (step s (state_in s p)) same ∙ (sym (step_in s text p c known n.0) ∙ ap (option_map (state_in s)) f));
        free = not_refused before t rest at
            (or_from (is_unbounded before t rest) _ (unbounded ∙ a.0)
            (or_from (begins_fifth_term before t) _ (fifth ∙ l.0)
            (or_from (is_bad_number before t) (is_out_of_order before t) (bad ∙ n.0) (disorder n.0 ∙ o.0))))
            g.0 (omega (arith, g.1, deep)) (omega (arith, g.2, made));
        few = made;
      }
