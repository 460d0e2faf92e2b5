-- A printed text is refused only as too long or too deep.
use Rattle.std.proofs.Common.{◌≡◌, ℕ, suc, ◌+◌, ◌-◌, ◌≤◌, List, [], ◌∷◌, ◌++◌, length}
use Rattle.std.proofs.Common.{refl, ap, sym, ◌∙◌, Bool, true, false, if◌then◌else◌, inl, inr, ◌⊎◌, arith}
use Rattle.std.proofs.lemmas.Option.{same_Some, none-some}
use Rattle.std.specs.Prelude.{codes, reverse, nat_le, nat_lt, nat_abs, not, ◌&&◌, ◌||◌, Option, Some, None}
use Rattle.std.proofs.lemmas.List.{append-nil, reverse-reverse}
use Rattle.std.proofs.lemmas.Bool.Decides.{nat_tests}
use Rattle.std.proofs.lemmas.List.Elements.{All-weaker}
use Rattle.stl_syntax.specs.Characters.{is_blank, is_among, all}
use Rattle.stl_syntax.specs.WellFormed.{IsLeafInLimits}
use Rattle.stl_syntax.specs.declared.node.Node.{Node}
use Rattle.stl_syntax.specs.declared.node.Node.TheVariants.{Atom as Leaf}
use Rattle.stl_grammar.specs.Tokens.{Token, word, number, bracket, bracket_end, Lexes, nothing, token, blank as skip}
use Rattle.stl_grammar.specs.Grammar.{IsFormula}
use Rattle.stl_grammar.specs.FormulaRefusals.{ahead, MayBegin, MayEnd, opens_bound, begins_future_bound, is_unbounded}
use Rattle.stl_grammar.specs.FormulaRefusals.{expected, makes_node, nodes_made, is_bad_number, RefusedAt, TokenFault}
use Rattle.stl_grammar.specs.FormulaRefusals.{blank, bad_byte, here, later, at_end, IsFormulaFault}
use Rattle.stl_grammar.specs.Laws.{IsTooLongOrDeep, PrintedTextsAreFormulas}
use Rattle.stl_grammar.specs.Operators.{is_beside, looks_back, may_be_open}
use Rattle.stl_grammar.specs.Machine.{Kind, kind, a_timed, an_inf, Place, at_operand, at_bound, at_high, at_term, at_name, at_end as at_whole, State}
use Rattle.stl_grammar.specs.Machine.{start, top_rank, begun, opened, timed_frame, opening, begin_word, after_word, step, step_at, run, future_at}
use Rattle.stl_syntax.specs.declared.scale.Scale.{Scale}
use Rattle.stl_grammar.specs.declared.operator.Timed.{Timed}
use Rattle.stl_grammar.specs.declared.operator.Timed.TheVariants.{Until as TUntil, Eventually as TEventually, Always as TAlways}
use Rattle.stl_grammar.specs.declared.fault.FormulaFault.{FormulaFault}
use Rattle.stl_grammar.specs.Building.{is_large}
use Rattle.stl_grammar.proofs.BuildLemmas.{no_fault}
use Rattle.stl_grammar.proofs.Derivations.{formula_derived}
use Rattle.stl_grammar.proofs.LawProofs.{one_formula}
use Rattle.stl_grammar.proofs.LeastDigits.{printed_texts_are_read}
use Rattle.stl_grammar.proofs.MachineRuns.{go, run_go, formula_runs, run_stops, step_stops, run_goes_on, step_runs}
use Rattle.stl_grammar.proofs.MachineView.{run_expected, run_nodes, run_fifth, run_disorder, run_future}
use Rattle.stl_grammar.proofs.PrintedFine.{bad_of, FineAt, Fine, neat_pieces, derived_fine}
use Rattle.stl_grammar.proofs.PrintedRead.{each_reach, all_fit, printed_read}
use Rattle.stl_grammar.proofs.ReadNodes.{reverse_more}
use Rattle.stl_grammar.proofs.RefusalLaw.{token-unique, no_token_at_blank, no_token_at_end}
use Rattle.stl_grammar.proofs.Rescaled.{rescaled}
use Rattle.stl_grammar.proofs.WordKinds.{is_inf, is_until, looks_ahead, among_ahead, among_inf, among_until}

-- the tokens before a place and after it are a formula
abbrev Goes : List Token → List Token → Type 0
Goes before ts = (nodes : List Node) × IsFormula (record { time = 0; value = 0 }) 0 (reverse before ++ ts) nodes

goes_on : (before : List Token) (t : Token) (ts : List Token) → Goes before (t ∷ ts) → Goes (t ∷ before) ts
goes_on before t ts g = (g.0, rw (reverse_more t before ts) g.1)

may_begin : (before ts : List Token) → Goes before ts → MayBegin before
may_begin before ts g = (ts, g.0, g.1)

may_end : (before : List Token) → Goes before [] → MayEnd before
may_end before g = let x = g.1 in (g.0, rw append-nil at x)

state_after : (s : Scale) (before ts : List Token) → Goes before ts → (q : State) × (run s before ≡ Some q)
state_after s before ts g = split (run s before) refl
  where
    split : (o : Option State) → run s before ≡ o → (q : State) × (run s before ≡ Some q)
    split None e = absurd (run_stops s before e (may_begin before ts g))
    split (Some q) e = (q, e)

-- more tokens make no fewer nodes
made_more : (us before : List Token) → nodes_made before ≤ nodes_made (us ++ before)
made_more [] before = omega arith
made_more (u ∷ us) before = one (makes_node (expected (us ++ before)) u) (nodes_made before) (nodes_made (us ++ before)) (made_more us before)
  where
    one : (b : Bool) (n m : ℕ) → n ≤ m → n ≤ (if b then suc m else m)
    one true n m h = omega (arith, h)
    one false n m h = h

-- a word that looks ahead is an operator with a bound
timed_ahead : (k : Kind) → looks_ahead k ≡ true → (of : Timed) × (k ≡ a_timed of) × (looks_back of ≡ false)
timed_ahead (a_timed TUntil) l = (TUntil, refl, refl)
timed_ahead (a_timed TEventually) l = (TEventually, refl, refl)
timed_ahead (a_timed TAlways) l = (TAlways, refl, refl)
timed_ahead (a_timed _) l = absurd (cc)
timed_ahead _ l = absurd (cc)

-- after which its bound comes
begin_ahead : (s : State) (w : List ℕ) (of : Timed) (next : State) → begin_word s w (a_timed of) ≡ Some next → next.place ≡ at_bound of
begin_ahead s w of next f = split (is_beside of) refl
  where
    split : (b : Bool) → is_beside of ≡ b → next.place ≡ at_bound of
    split true i = let x = rw i at f in absurd (none-some next x)
    split false i = let y : begun (at_bound of) s ≡ next = same_Some _ next (rw i at f) in ap (λ z. z.place) (sym y)

end_ahead : (s : State) (of : Timed) (next : State) → after_word s (a_timed of) ≡ Some next → next.place ≡ at_bound of
end_ahead s of next f = split (is_beside of) (nat_le 4 (top_rank s.frames)) refl refl
  where
    split : (b c : Bool) → is_beside of ≡ b → nat_le 4 (top_rank s.frames) ≡ c → next.place ≡ at_bound of
    split false c i j = let x = rw i at f in absurd (none-some next x)
    split true true i j = let x = rw (i, j) at f in absurd (none-some next x)
    split true false i j = let y : begun (at_bound of) s ≡ next = same_Some _ next (rw (i, j) at f) in ap (λ z. z.place) (sym y)

step_ahead : (z : Scale) (p : Place) (s : State) (of : Timed) (w : List ℕ) → kind w ≡ a_timed of → (next : State)
    → step_at z p s (word w) ≡ Some next → next.place ≡ at_bound of
step_ahead z at_operand s of w e next f = begin_ahead s w of next (rw e at f)
step_ahead z (at_bound o) s of w e next f = by_back (looks_back o) refl
  where
    by_back : (b : Bool) → looks_back o ≡ b → next.place ≡ at_bound of
    by_back true g = begin_ahead (opened (timed_frame o 0 None true true (length s.nodes - 1)) s) w of next (rw (g, e) at f)
    by_back false g = let x = rw g at f in absurd (none-some next x)
step_ahead z (at_high o x a j) s of w e next f = let x = rw e at f in absurd (none-some next x)
step_ahead z (at_term less) s of w e next f = let x = rw e at f in absurd (none-some next x)
step_ahead z (at_name less n) s of w e next f = let x = rw e at f in absurd (none-some next x)
step_ahead z at_whole s of w e next f = end_ahead s of next (rw e at f)
step_ahead z _ s of w e next f = absurd (none-some next f)

-- no `inf` where the bound looks ahead
inf_stops : (z : Scale) (p : Place) (s : State) (w : List ℕ) → kind w ≡ an_inf → future_at p ≡ true → step_at z p s (word w) ≡ None
inf_stops z (at_high of x a j) s w e f = by_back (looks_back of) refl
  where
    by_back : (b : Bool) → looks_back of ≡ b → step_at z (at_high of x a j) s (word w) ≡ None
    by_back true g = let x = rw g at f in absurd (cc)
    by_back false g = rw (e, g) refl
inf_stops z _ s w e f = absurd (cc)

-- a bracket that is the next token opens a bound
opens_lexed : (w : List ℕ) {text : List ℕ} {u : Token} {us : List Token} → Lexes text (u ∷ us) → (of : Timed) (x : Bool) → opening of u ≡ Some x
    → (may_be_open of ≡ true → is_among w (codes "until" ∷ []) ≡ false) → opens_bound w text ≡ true
opens_lexed w (skip {c = c} {text = text} b l) of x e f = rw b (opens_lexed w l of x e f)
opens_lexed w (token bytes text e bracket l) of x h f = rw e refl
opens_lexed w (token bytes text e bracket_end l) of x h f = rw (e, f (may_open (may_be_open of) h)) refl
  where
    may_open : (b : Bool) → (if b then Some false else None) ≡ Some x → b ≡ true
    may_open true h = refl
    may_open false h = absurd (none-some x h)
opens_lexed w (token bytes text e _ l) of x h f = absurd (none-some x h)

bound_stops : (z : Scale) (next : State) (of : Timed) (u : Token) → next.place ≡ at_bound of → opening of u ≡ None → looks_back of ≡ false
    → step z next u ≡ None
bound_stops z next of u e f g = rw (e, f, g) refl

both_ways : (a b c d : Bool) → ((a && not b) || (c && d)) ≡ true → ((a ≡ true) × (b ≡ false)) ⊎ ((c ≡ true) × (d ≡ true))
both_ways true false c d e = inl (refl, refl)
both_ways true true true true e = inr (refl, refl)
both_ways true true true false e = absurd (cc)
both_ways true true false d e = absurd (cc)
both_ways false b true true e = inr (refl, refl)
both_ways false b true false e = absurd (cc)
both_ways false b false d e = absurd (cc)

kind_inf : (k : Kind) → is_inf k ≡ true → k ≡ an_inf
kind_inf an_inf e = refl
kind_inf _ e = absurd (cc)

-- the operator that looks ahead has its bound
ahead_opens : (z : Scale) (before : List Token) (s : State) → run z before ≡ Some s → (w : List ℕ) {text : List ℕ} {ts : List Token}
    → Lexes text ts → Goes before (word w ∷ ts) → is_among w ahead ≡ true
    → opens_bound w text ≡ true
ahead_opens z before s e w {text} {ts} l g a = by_step (step z s (word w)) refl
  where
    of : (of : Timed) × (kind w ≡ a_timed of) × (looks_back of ≡ false)
    of = timed_ahead (kind w) (sym (among_ahead w) ∙ a)

    not_until : may_be_open of.0 ≡ true → is_among w (codes "until" ∷ []) ≡ false
    not_until m = among_until w ∙ (ap is_until of.1 ∙ by_operator of.0 m)
      where
        by_operator : (o : Timed) → may_be_open o ≡ true → is_until (a_timed o) ≡ false
        by_operator TUntil m = absurd (cc)
        by_operator _ m = refl

    by_next : (next : State) → step z s (word w) ≡ Some next → next.place ≡ at_bound of.0 → (us : List Token) → Lexes text us
        → Goes (word w ∷ before) us → opens_bound w text ≡ true
    by_next next f b [] l h =
        absurd (run_goes_on z (word w ∷ before) next (step_runs z before s (word w) e ∙ f) (rw b refl) (may_end (word w ∷ before) h))
    by_next next f b (u ∷ us) l h = by_bracket (opening of.0 u) refl
      where
        by_bracket : (c : Option Bool) → opening of.0 u ≡ c → opens_bound w text ≡ true
        by_bracket (Some x) o = opens_lexed w l of.0 x o not_until
        by_bracket None o =
            absurd (step_stops z (word w ∷ before) next u (step_runs z before s (word w) e ∙ f) (bound_stops z next of.0 u b o of.2)
            (may_begin (u ∷ word w ∷ before) us (goes_on (word w ∷ before) u us h)))

    by_step : (o : Option State) → step z s (word w) ≡ o → opens_bound w text ≡ true
    by_step None f = absurd (step_stops z before s (word w) e f (may_begin (word w ∷ before) ts (goes_on before (word w) ts g)))
    by_step (Some next) f = by_next next f (step_ahead z s.place s of.0 w of.1 next f) ts l (goes_on before (word w) ts g)

not_unbounded : (z : Scale) (before : List Token) (s : State) → run z before ≡ Some s → (t : Token) {text : List ℕ} {ts : List Token}
    → Lexes text ts → Goes before (t ∷ ts) → is_unbounded before t text ≡ true → ⊥
not_unbounded z before s e (word w) {text} {ts} l g h =
    by_way (both_ways (is_among w ahead) (opens_bound w text) (is_among w (codes "inf" ∷ [])) (begins_future_bound before) h)
  where
    by_way : ((is_among w ahead ≡ true) × (opens_bound w text ≡ false)) ⊎ ((is_among w (codes "inf" ∷ []) ≡ true) × (begins_future_bound before ≡ true)) → ⊥
    by_way (inl (a, b)) = let x = ahead_opens z before s e w l g a in cc
    by_way (inr (a, b)) =
        let k = kind_inf (kind w) (sym (among_inf w) ∙ a) in
        step_stops z before s (word w) e (inf_stops z s.place s w k (sym (run_future z before s e) ∙ b))
        (may_begin (word w ∷ before) ts (goes_on before (word w) ts g))
not_unbounded z before s e t l g h = absurd (cc)

bad_same : (before : List Token) (t : Token) → is_bad_number before t ≡ bad_of (expected before) t
bad_same before (number n k) = refl
bad_same before t = refl

-- a token of the formula is refused only as too deep
refused_deep : (z : Scale) (before : List Token) (t : Token) {text : List ℕ} {ts : List Token} (p : ℕ) (r : FormulaFault) → Lexes text ts
    → Goes before (t ∷ ts) → nodes_made (t ∷ before) ≤ 256
    → FineAt (run z before) t → RefusedAt before t text p r → IsTooLongOrDeep r
refused_deep z before t {text} {ts} p r l g few fine x = by_fault (state_after z before (t ∷ ts) g) x
  where
    by_fault : (s : State) × (run z before ≡ Some s) → RefusedAt before t text p r → IsTooLongOrDeep r
    by_fault (s, e) (inl (a, b)) = absurd (not_unbounded z before s e t l g a)
    by_fault (s, e) (inr (_, inl (a, b))) = absurd (a (may_begin (t ∷ before) ts (goes_on before t ts g)))
    by_fault (s, e) (inr (_, inr (_, inl (a, b)))) = inr (p, b)
    by_fault (s, e) (inr (_, inr (_, inr (_, inl (a, b))))) = absurd (omega (arith, a, few))
    by_fault (s, e) (inr (_, inr (_, inr (_, inr (_, inl (a, b)))))) =
        let f = rw e at fine in let y : false ≡ true = sym f.0 ∙ (sym (run_fifth z before s e t) ∙ a) in absurd (cc)
    by_fault (s, e) (inr (_, inr (_, inr (_, inr (_, inr (_, inl (a, b))))))) =
        let f = rw e at fine in let y : false ≡ true = sym f.2 ∙ (sym (bad_same before t ∙ ap (λ z. bad_of z t) (run_expected z before s e)) ∙ a) in absurd (cc)
    by_fault (s, e) (inr (_, inr (_, inr (_, inr (_, inr (_, inr (_, (a, b)))))))) =
        let f = rw e at fine in let y : false ≡ true = sym f.1 ∙ (sym (run_disorder z before s e t) ∙ a) in absurd (cc)

-- and so is the text
only_deep : (z : Scale) {text : List ℕ} {ts : List Token} → Lexes text ts → (before : List Token) (p : ℕ) (r : FormulaFault) → Goes before ts
    → nodes_made (reverse ts ++ before) ≤ 256 → Fine z (run z before) ts
    → TokenFault before p text r → IsTooLongOrDeep r
only_deep z nothing before p r g few fine (at_end n) = absurd (n (may_end before g))
only_deep z nothing before p r g few fine (here t bytes rest e k x) = absurd (no_token_at_end bytes rest t e k)
only_deep z nothing before p r g few fine (later t bytes rest e k y f) = absurd (no_token_at_end bytes rest t e k)
only_deep z (skip b l) before p r g few fine (blank b' f) = only_deep z l before (suc p) r g few fine f
only_deep z (skip b l) before p r g few fine (bad_byte c n) = absurd (cc)
only_deep z (skip {c = c} {text = text} b l) before p r g few fine (here t bytes rest e k x) = absurd (no_token_at_blank c text bytes rest t b e k)
only_deep z (skip {c = c} {text = text} b l) before p r g few fine (later t bytes rest e k y f) = absurd (no_token_at_blank c text bytes rest t b e k)
only_deep z (token {t = t} bytes text e k l) before p r g few fine (blank {c = c} {text = rest} b f) = absurd (no_token_at_blank c rest bytes text t b e k)
only_deep z (token {t = t} bytes text e k l) before p r g few fine (bad_byte c n) = absurd (n bytes text t e k)
only_deep z (token {t = t} bytes text e k l) before p r g few fine (at_end n) = absurd (no_token_at_end bytes text t e k)
only_deep z (token {t = t} {tokens = ts} {whole = whole} bytes text e k l) before p r g few fine (here t' bytes' text' e' k' x) =
    let u = token-unique whole bytes bytes' text text' t t' e k e' k' in
    let m : nodes_made (reverse ts ++ t ∷ before) ≤ 256 = rw (← reverse_more t ts before) few in
    let n = made_more (reverse ts) (t ∷ before) in
    refused_deep z before t p r l g (omega (arith, m, n)) fine.0 (rw (u.0, u.1) x)
only_deep z (token {t = t} {tokens = ts} {whole = whole} bytes text e k l) before p r g few fine (later t' bytes' text' e' k' y f) =
    let u = token-unique whole bytes bytes' text text' t t' e k e' k' in
    only_deep z l (t ∷ before) (p + length bytes) r (goes_on before t ts g) (rw (← reverse_more t ts before) few) fine.1 (rw (u.0, u.1, u.2) f)

-- blanks have no tokens, and a formula has some
blank_tokens : {text : List ℕ} {ts : List Token} → Lexes text ts → all is_blank text ≡ true → ts ≡ []
blank_tokens nothing h = refl
blank_tokens (skip b l) h = blank_tokens l (rw b at h)
blank_tokens (token {t = t} {tokens = ts} {whole = whole} bytes text e k l) h = by_whole whole e h
  where
    by_whole : (cs : List ℕ) → cs ≡ bytes ++ text → all is_blank cs ≡ true → t ∷ ts ≡ []
    by_whole [] e h = absurd (no_token_at_end bytes text t e k)
    by_whole (c ∷ rest) e h = by_first (is_blank c) refl
      where
        by_first : (b : Bool) → is_blank c ≡ b → t ∷ ts ≡ []
        by_first true f = absurd (no_token_at_blank c rest bytes text t f e k)
        by_first false f = let x = rw f at h in absurd (cc)

some_tokens : (ts : List Token) → Goes [] ts → ¬ (ts ≡ [])
some_tokens ts (nodes, d) e = run_goes_on (record { time = 0; value = 0 }) [] start refl refl (nodes, rw e at d)

not_large : (n : Node) → IsLeafInLimits n → is_large n ≡ false
not_large (Leaf a) h = below (nat_abs a.limit) h.limit
  where
    below : (n : ℕ) → n ≤ 1073741824 → nat_lt 1073741824 n ≡ false
    below n l = grind (arith, nat_tests, l)
not_large _ h = refl

-- a printed text is that of a formula, or too long or too deep
pub printed_texts_are_formulas : PrintedTextsAreFormulas
printed_texts_are_formulas f text r w least h fault =
    let (ts, l, d, neat) = printed_read f text w h in
    let fit = all_fit f.nodes w.nodes.atoms w.nodes.bounds (each_reach f.nodes w.nodes.reach) in
    let t = formula_derived 1 (omega arith) d in
    let fine = derived_fine f.scale w.scale.time w.scale.value t (omega arith) fit (neat_pieces f.scale ts neat) [] [] 0 (omega arith) refl in
    let back : reverse (reverse ts) ≡ ts = reverse-reverse ts in
    let (q, g, i) = formula_runs f.scale d in
    let run_is : run f.scale (reverse ts) ≡ Some q = run_go f.scale (reverse ts) ∙ (ap (λ z. go f.scale (Some start) z) back ∙ g) in
    let made : nodes_made (reverse ts) ≡ 0 + length f.nodes = run_nodes f.scale (reverse ts) q run_is ∙ i.count in
    let some = w.nodes.few in
    let few : nodes_made (reverse ts ++ []) ≤ 256 = rw append-nil (omega (arith, made, some)) in
    by_fault ts l d fine few fault
  where
    by_fault : (ts : List Token) → Lexes text ts → IsFormula f.scale 0 ts f.nodes → Fine f.scale (Some start) ts
        → nodes_made (reverse ts ++ []) ≤ 256 → IsFormulaFault text r → IsTooLongOrDeep r
    by_fault ts l d fine few (inl (a, e)) = inl (length text, e)
    by_fault ts l d fine few (inr (_, inl (a, e))) = absurd (some_tokens ts (rescaled d (record { time = 0; value = 0 })) (blank_tokens l a))
    by_fault ts l d fine few (inr (_, inr (_, inl x))) = only_deep f.scale l [] 0 r (rescaled d (record { time = 0; value = 0 })) few fine x
    by_fault ts l d fine few (inr (_, inr (_, inr (_, (g, read, large))))) =
        let e : g ≡ f = one_formula text g f read (printed_texts_are_read f text w least h) in
        absurd (no_fault f.nodes (All-weaker IsLeafInLimits (λ m. is_large m ≡ false) not_large f.nodes w.nodes.atoms) w.nodes.reach r (rw e at large))
