-- A line of the root is taken, or nothing that the nodes hold has changed.
use Rattle.std.proofs.Common.{◌≡◌, ◌≢◌, ℕ, suc, ◌-◌, ◌<◌, Bool, true, false, List, [], ◌∷◌, ◌++◌, length}
use Rattle.std.proofs.Common.{drop, refl, sym, ap, subst, ◌∙◌, append_assoc, inl, inr, Some, None}
use Rattle.std.proofs.Common.{ℤ, pos, set, take, get_or, get_or-set_same, get_or-set_other, length-set}
use Rattle.std.specs.Prelude.{MatchBool, int_lt, slice_get}
use Rattle.std.proofs.lemmas.Bool.{cases_eq}
use Rattle.std.proofs.lemmas.List.{set-get_or}
use Rattle.std.proofs.lemmas.Option.{same_Some}
use Rattle.rational.specs.Windows.{Function}
use Rattle.stl_syntax.specs.Trace.{Header, Row, Trace, IsTrace, Continues, last_time}
use Rattle.stl_syntax.specs.Formula.{subformula}
use Rattle.stl_syntax.specs.SupInf.{Robustness}
use Rattle.stl_syntax.specs.Limits.{reach}
use Rattle.stl_syntax.specs.declared.node.Node.{Node}
use Rattle.online_nodes.specs.Network.{reach_back}
use Rattle.online_nodes.specs.StreamedWide.{front_at}
use Rattle.online_nodes.proofs.ReadersLaw.{root_unread}
use Rattle.online_robust.specs.Held.{Edge, Held, edge_at, held_at, held_of, no_edge, number_at, with_edge, without}
use Rattle.online_robust.specs.Told.{AreTold, AreFit, IsFitLine, IsToldLine}
use Rattle.online_robust.specs.Steps.{AreInputs, IsInput, seen_by}
use Rattle.online_robust.specs.Pasts.{Past, number_of, Gave, AreToldOver, IsHeld, IsWork}
use Rattle.online_robust.specs.Moving.{AreStreamed}
use Rattle.online_robust.specs.Nets.{Shows, AreRowsSoFar, IsTimely}
use Rattle.online_robust.specs.declared.line.MarginLine.{MarginLine}
use Rattle.online_robust.specs.declared.line.MarginLine.TheVariants.{Point, Gap}
use Rattle.online_robust.specs.declared.station.Station.{Station}
use Rattle.node_edges.proofs.DroppingLemmas.{held_of-without}
use Rattle.online_robust.proofs.GivenOutGrows.{itself}
use Rattle.online_robust.proofs.Readers.{seen_same}

-- the first of a list, and the rest
pub first_and_rest : (xs : List MarginLine) (line : MarginLine) → slice_get xs 0 ≡ Some line → line ∷ drop 1 xs ≡ xs
first_and_rest [] line h = absurd (let f = h in cc)
first_and_rest (x ∷ xs) line h = let same : x ≡ line = same_Some _ _ h in ap (λ y. y ∷ xs) (sym same)

abbrev edge_of_parts : List MarginLine → List MarginLine → Edge → Edge
edge_of_parts seen fresh x = record { seen = seen; fresh = fresh; number = x.number; joins = x.joins }

-- ---- what the nodes show, where only what was taken of the root has changed

module _ (nodes : List Node) (header : Header) (streamed : AreStreamed nodes) (at : ℕ → Past) (given given' : List MarginLine) (e e' : Held)
    (stations : List Station) (shows : Shows nodes header at given e stations) where
  abbrev root : ℕ
  root = length nodes - 1

  -- what was taken of the root and what is left are what it gave out
  pub shows_taken : ((j : ℕ) → j ≢ root → edge_at e' j ≡ edge_at e j) → number_at e' root ≡ number_at e root
      → given' ++ held_at e' root ≡ given ++ held_at e root → length e'.edges ≡ length e.edges → Shows nodes header at given' e' stations
  shows_taken others number all count = record {
    edges = count ∙ shows.edges;
    stations = shows.stations;
    held = λ j r n left found reads.
        let unread : j ≢ root = root_unread nodes streamed.one_root r n left j found reads in
        subst (λ x. IsHeld nodes header (at j) j (at r) r (reach_back n left) (held_of x)) (sym (others j unread)) (shows.held j r n left found reads);
    root = subst (Gave nodes header (at root) root) (sym all) shows.root;
    numbers = λ j l. numbered j (shows.numbers j l);
    works = λ j n st found here.
        let both = shows.works j n st found here in
        let seen : seen_by n e' ≡ seen_by n e =
        seen_same n e e' (λ k left reads. ap (λ (x : Edge). x.seen) (others k (root_unread nodes streamed.one_root j n left k found reads))) in
        (both.0, subst (λ s. IsWork nodes header (at j) j n s st.work) (sym seen) both.1);
  }
    where
      numbered : (j : ℕ) → number_at e j ≡ number_of nodes (at j) j → number_at e' j ≡ number_of nodes (at j) j
      numbered j is = elim (cases_eq j root) [
        | inl same ↦ ap (number_at e') same ∙ number ∙ sym (ap (number_at e) same) ∙ is
        | inr apart ↦ ap (λ (x : Edge). x.number) (others j apart) ∙ is
      ]

  -- the edges hold the same
  pub shows_same : given' ≡ given → e'.edges ≡ e.edges → Shows nodes header at given' e' stations
  shows_same same is =
      shows_taken (λ j apart. ap (λ l. get_or l j no_edge) is) (ap (λ (x : Edge). x.number) (ap (λ l. get_or l root no_edge) is))
      (ap (λ l. l ++ held_at e' root) same ∙ ap (λ x. given ++ held_of x) (ap (λ l. get_or l root no_edge) is)) (ap length is)

  -- the first line of the root is taken
  pub shows_next : root < length e.edges → (line : MarginLine) → slice_get (held_at e root) 0 ≡ Some line → given' ≡ given ++ line ∷ []
      → e'.edges ≡ with_edge e root (without 1 (edge_at e root)) → Shows nodes header at given' e' stations
  shows_next within line first more is =
      shows_taken
      (λ j apart. ap (λ l. get_or l j no_edge) is ∙ get_or-set_other e.edges root j (without 1 (edge_at e root)) no_edge apart)
      (ap (λ (x : Edge). x.number) here)
      (ap (λ l. l ++ held_at e' root) more ∙ append_assoc given (line ∷ []) (held_at e' root) ∙ ap (λ l. given ++ l) rest)
      (ap length is ∙ length-set e.edges root (without 1 (edge_at e root)))
    where
      here : edge_at e' root ≡ without 1 (edge_at e root)
      here = ap (λ l. get_or l root no_edge) is ∙ get_or-set_same e.edges root (without 1 (edge_at e root)) no_edge within

      rest : line ∷ held_at e' root ≡ held_at e root
      rest = ap (λ x. line ∷ held_of x) here ∙ ap (λ l. line ∷ l) (held_of-without 1 (edge_at e root)) ∙ first_and_rest (held_at e root) line first

  -- there was none to be taken
  pub shows_none : slice_get (held_at e root) 0 ≡ None → given' ≡ given → e'.edges ≡ with_edge e root (without 1 (edge_at e root))
      → Shows nodes header at given' e' stations
  shows_none none same is =
      let kept : with_edge e root (without 1 (edge_at e root)) ≡ with_edge e root (edge_at e root) = ap (set e.edges root) (empty (edge_at e root) none) in
      let back : with_edge e root (edge_at e root) ≡ e.edges = set-get_or e.edges root no_edge in
      let all : e'.edges ≡ e.edges = is ∙ kept ∙ back in
      shows_same same all
    where
      empty : (x : Edge) → slice_get (held_of x) 0 ≡ None → without 1 x ≡ x
      empty x h = by_parts x.seen x.fresh h
        where
          by_parts : (seen fresh : List MarginLine) → slice_get (seen ++ fresh) 0 ≡ None
              → edge_of_parts (drop 1 seen) (drop (1 - length seen) fresh) x ≡ edge_of_parts seen fresh x
          by_parts [] [] h = refl
          by_parts _ _ h = absurd (let f = h in cc)

-- the root held nothing
pub held_none : (e : Held) (i : ℕ) → slice_get (held_at e i) 0 ≡ None → held_at e i ≡ []
held_none e i h = by_list (held_at e i) h
  where
    by_list : (xs : List MarginLine) → slice_get xs 0 ≡ None → xs ≡ []
    by_list [] h = refl
    by_list (x ∷ xs) h = absurd (let f = h in cc)

-- ---- a line that is given

timely_of : (reach : ℕ) (x : MarginLine) → IsFitLine reach x → IsTimely x
timely_of reach (Point at v) fit = fit.0
timely_of reach (Gap from to p) fit = (fit.0, fit.1)

fit_after : (reach : ℕ) (given : List MarginLine) (x : MarginLine) (more : List MarginLine) → AreFit reach (given ++ x ∷ more) → IsFitLine reach x
fit_after reach [] x more fit = fit.0
fit_after reach (y ∷ given) x more fit = fit_after reach given x more fit.1

told_after : (F : Function) (given : List MarginLine) (x : MarginLine) (more : List MarginLine) → AreTold F (given ++ x ∷ more) → IsToldLine F x
told_after F [] x more told = told.0
told_after F (y ∷ given) x more told = told_after F given x more told.1

not_none : (given : List MarginLine) (x : MarginLine) (more : List MarginLine) → given ++ x ∷ more ≡ [] → ⊥
not_none [] x more e = let f = e in cc
not_none (y ∷ given) x more e = let f = e in cc

module _ (nodes : List Node) (header : Header) (past : Past) (i : ℕ) (given more : List MarginLine) (x : MarginLine)
    (gave : Gave nodes header past i (given ++ x ∷ more)) where
  given_inputs : (F : Function) (most start : ℕ) (f : ℤ) → IsInput F most start None f (given ++ x ∷ more) → AreInputs F most start None f (given ++ x ∷ more)
  given_inputs F most start f input = by_test (int_lt f (pos start)) input
    where
      by_test : (b : Bool) → MatchBool b (given ++ x ∷ more ≡ []) (AreInputs F most start None f (given ++ x ∷ more))
          → AreInputs F most start None f (given ++ x ∷ more)
      by_test true e = absurd (not_none given x more e)
      by_test false a = a

  -- the line tells the root's margin in each trace that goes on
  pub line_told : (tr : Trace) → IsTrace tr → Continues tr header past.rows past.ended → IsToldLine (Robustness (subformula nodes i) tr) x
  line_told tr is c = by_rows past.rows gave.told c
    where
      by_rows : (rows : List Row) → AreToldOver nodes header past.ended i rows (given ++ x ∷ more) → Continues tr header rows past.ended
          → IsToldLine (Robustness (subformula nodes i) tr) x
      by_rows [] none c = absurd (not_none given x more none)
      by_rows (r ∷ rows) told c =
          told_after (Robustness (subformula nodes i) tr) given x more
          (given_inputs (Robustness (subformula nodes i) tr) (reach (take (suc i) nodes)) r.time
          (front_at past.ended (pos (last_time r.time rows)) (subformula nodes i))
          (told tr is c)).told

  -- the line comes as soon as it may
  pub line_timely : AreRowsSoFar header past.rows → IsTimely x
  line_timely rows = by_rows past.rows gave.told rows
    where
      by_rows : (rows : List Row) → AreToldOver nodes header past.ended i rows (given ++ x ∷ more) → AreRowsSoFar header rows → IsTimely x
      by_rows [] none is = absurd (not_none given x more none)
      by_rows (r ∷ rows) told is =
          let tr : Trace = record { header = header; rows = r ∷ rows } in
          timely_of (reach (take (suc i) nodes)) x (fit_after (reach (take (suc i) nodes)) given x more
          (given_inputs (Robustness (subformula nodes i) tr) (reach (take (suc i) nodes)) r.time
          (front_at past.ended (pos (last_time r.time rows)) (subformula nodes i))
          (told tr is (itself tr past.ended))).fit)
