-- What `explain` and `json` write in smaller ticks they write in the trace's, for a formula and rows within the limits.
use Rattle.std.proofs.Common.{◌≡◌, ℕ, ◌+◌, ◌^◌, ◌<◌, ◌≤◌, ◌&&◌, Bool, true, false, List, [], ◌∷◌, ◌++◌, codes}
use Rattle.std.proofs.Common.{refl, sym, ap, ◌∙◌, subst, inl, inr, if◌then◌else◌, Some, MatchBool}
use Rattle.std.specs.Prelude.{slice_get}
use Rattle.rational.specs.Time.{BeginAlike, EndAlike, Precedes, closed}
use Rattle.rational.proofs.Order.{same_refl, same_sym, same_trans, le_of_same}
use Rattle.rational.proofs.TimeLemmas.{precedes_after, precedes_before, precedes_of_room, room_of_precedes}
use Rattle.frac128.specs.Value.{value}
use Rattle.frac128.specs.Spans.{interval}
use Rattle.serde_json.specs.Data.{boolean, string, object, Items, item, no_members, member}
use Rattle.stl_syntax.specs.Trace.{Trace, IsTrace, AreInRange, start, stop}
use Rattle.stl_syntax.specs.Formula.{Formula, Subformula, subformula, root}
use Rattle.stl_syntax.specs.Truth.{Truth}
use Rattle.stl_syntax.specs.Kept.{Kept}
use Rattle.stl_syntax.specs.Texts.{IsNumberText, IsSpanText, IsStartLine, bool_text, newline}
use Rattle.stl_syntax.specs.Verdicts.{Describes, DescribesMargins}
use Rattle.stl_syntax.specs.WellFormed.{IsWellFormed}
use Rattle.stl_syntax.specs.declared.node.Node.TheVariants.{Atom as Leaf}
use Rattle.stl_syntax.specs.declared.scale.Scale.{Scale}
use Rattle.stl_syntax.specs.declared.items.Item.{Item}
use Rattle.stl_syntax.specs.declared.items.Verdict.{Verdict}
use Rattle.stl_syntax.proofs.TruthLemmas.{Truth-same}
use Rattle.stl_syntax.specs.Scaling.{nodes_for}
use Rattle.report.specs.Report.{Out, explain, json, Join, AreJoined, IsItemLines, AreItemLines, IsExplained}
use Rattle.report.specs.Json.{AreItemData, AreVerdictData}
use Rattle.answer_lines.proofs.KeptTexts.{number_of_same}
use Rattle.unit_laws.specs.Units.{finer, ExplainIsOfUnits, JsonIsOfUnits}
use Rattle.bounds.proofs.NearTimes.{Move, ahead}
use Rattle.unit_laws.proofs.Clocks.{clock, unclock, clock_same, same_of_clock, unclock_same, unclock-clock, precedes_of_clock}
use Rattle.unit_laws.proofs.CalmTruth.{HasCalmAtoms}
use Rattle.unit_laws.proofs.CalmFormulas.{root_calm, subformula_calm}
use Rattle.unit_laws.proofs.FinerTrees.{finer_tree, root_finer, nodes_finer}
use Rattle.unit_laws.proofs.FinerTruth.{truth_by}
use Rattle.unit_laws.proofs.FinerRows.{some_power, finer_counts}
use Rattle.unit_laws.proofs.FinerTexts.{time_text_back, value_text_back}
use Rattle.unit_laws.proofs.FinerExplain.{explain_keeps_its_text}
use Rattle.unit_laws.proofs.FinerJson.{json_keeps_its_text}
use Rattle.unit_laws.proofs.KnotsChange.{knots_by, describes_by}
use Rattle.unit_laws.proofs.FinerKnots.{from_clock}
use Rattle.unit_laws.proofs.ChangedTables.{margin_data_by}
use Rattle.unit_laws.proofs.VerdictsBack.{HasEnds, verdicts_back, describe_back}
use Rattle.unit_laws.proofs.TurningTimes.{has_ends}
use Rattle.unit_laws.proofs.CoarserVerdicts.{end_text}
use Rattle.unit_laws.proofs.ShownItems.{IsShownItem, AreShownItems, kept_back}

-- ---- lines of items

module _ (K : ℕ) (o : Move) (kp : 0 < K) where
  abbrev IsShown : Item → Item → Type 0
  IsShown e g = IsShownItem K o kp e g

  abbrev AreShown : List Item → List Item → Type 0
  AreShown es gs = AreShownItems K o kp es gs

  join_back : (e f g h : Item) → IsShown e g → IsShown f h → Join g h → Join e f
  join_back e f g h s r (node, holds, touch) = (
    sym s.node ∙ node ∙ r.node,
    sym s.holds ∙ holds ∙ r.holds,
    record {
      time = same_of_clock K o kp (same_trans (same_sym r.begins.time) (same_trans touch.time s.ends.time));
      once = λ x. touch.once (r.begins.inside ∙ x ∙ sym s.ends.inside);
    },
  )

  join_forth : (e f g h : Item) → IsShown e g → IsShown f h → Join e f → Join g h
  join_forth e f g h s r (node, holds, touch) = (
    s.node ∙ node ∙ sym r.node,
    s.holds ∙ holds ∙ sym r.holds,
    record {
      time = same_trans r.begins.time (same_trans (clock_same K o touch.time) (same_sym s.ends.time));
      once = λ x. touch.once (sym r.begins.inside ∙ x ∙ s.ends.inside);
    },
  )

  -- the span from the begin of one item to the end of another, where by the clock it has a time
  spanned : (line e line' e' longer : Item) → IsShown line line' → IsShown e e' → BeginAlike (interval longer.on) (interval line'.on)
      → EndAlike (interval longer.on) (interval e'.on)
      → Precedes (longer.on.from_in && longer.on.to_in) (value line.on.from) (value e.on.to)
  spanned line e line' e' longer s r begins ends =
      let b = longer.on.from_in && longer.on.to_in in
      precedes_of_clock K o kp b (value line.on.from) (value e.on.to)
      (precedes_after b (clock K o (value line.on.from)) (value longer.on.from) (clock K o (value e.on.to))
      (le_of_same (same_sym (same_trans begins.time s.begins.time)))
      (precedes_before b (value longer.on.from) (value longer.on.to) (clock K o (value e.on.to))
      (precedes_of_room b (value longer.on.from) (value longer.on.to) longer.on.not_empty) (le_of_same (same_trans ends.time r.ends.time))))

  abbrev LinesBack : Item → Item → List Item → List Item → Type 0
  LinesBack line last items lines' = (lines : List Item) × AreShown lines lines' × AreJoined line last items lines

  joined_back : (line line' last last' : Item) (items items' lines' : List Item) → IsShown line line' → IsShown last last' → AreShown items items'
      → AreJoined line' last' items' lines' → LinesBack line last items lines'
  joined_back line line' last last' [] [] lines' s t r h = (line ∷ [], subst (λ xs. AreShown (line ∷ []) xs) (sym h) (s, tt), refl)
  joined_back line line' last last' [] (g ∷ items') lines' s t r h = absurd r
  joined_back line line' last last' (e ∷ items) [] lines' s t r h = absurd r
  joined_back line line' last last' (e ∷ items) (g ∷ items') lines' s t r (inl (join, (longer', node, holds, begins, ends, rest))) =
      let room = spanned line e line' g longer' s r.0 begins ends in
      let longer : Item = record {
        node = longer'.node;
        on = record {
          from = line.on.from;
          from_in = longer'.on.from_in;
          to = e.on.to;
          to_in = longer'.on.to_in;
          not_empty = room_of_precedes (longer'.on.from_in && longer'.on.to_in) (value line.on.from) (value e.on.to) room;
        };
        holds = longer'.holds;
      } in
      let is_shown : IsShown longer longer' = record {
        node = refl;
        holds = refl;
        begins = record { time = same_trans begins.time s.begins.time; inside = refl };
        ends = record { time = same_trans ends.time r.0.ends.time; inside = refl };
      } in
      let (lines, shown_lines, joined) = joined_back longer longer' e g items items' lines' is_shown r.0 r.1 rest in (
        lines,
        shown_lines,
        inl (
          join_back last e last' g t r.0 join,
          (
            longer,
            node ∙ s.node,
            holds ∙ s.holds,
            record { time = same_refl (value line.on.from); inside = begins.inside ∙ s.begins.inside },
            record { time = same_refl (value e.on.to); inside = ends.inside ∙ r.0.ends.inside },
            joined,
          ),
        ),
      )
  joined_back line line' last last' (e ∷ items) (g ∷ items') lines' s t r (inr (apart, (others', is, rest))) =
      let (others, shown_others, joined) = joined_back e g e g items items' others' r.0 r.0 r.1 rest in (
        line ∷ others,
        subst (λ xs. AreShown (line ∷ others) xs) (sym is) (s, shown_others),
        inr (λ x. apart (join_forth last e last' g t r.0 x), (others, refl, joined)),
      )

  -- the lines of items by the clock are, taken back, the lines of the items
  item_lines_back : (items items' lines' : List Item) → AreShown items items' → IsItemLines items' lines'
      → (lines : List Item) × AreShown lines lines' × IsItemLines items lines
  item_lines_back [] [] lines' r h = ([], subst (λ xs. AreShown [] xs) (sym h) tt, refl)
  item_lines_back [] (g ∷ items') lines' r h = absurd r
  item_lines_back (e ∷ items) [] lines' r h = absurd r
  item_lines_back (e ∷ items) (g ∷ items') lines' r h = joined_back e g e g items items' lines' r.0 r.0 r.1 h

-- ---- texts

module _ (k : ℕ) (kp : 0 < 10 ^ k) (scale other : Scale) (is : other.time ≡ scale.time + k) where
  shown_text : (e g : Item) → IsShownItem (10 ^ k) (ahead 0) kp e g → (on : List ℕ) → IsSpanText other g.on on → IsSpanText scale e.on on
  shown_text e g s on h = record {
    from = h.from;
    to = h.to;
    from_is = number_of_same scale.time (unclock (10 ^ k) (ahead 0) kp (value g.on.from)) (value e.on.from) h.from
        (same_trans (unclock_same (10 ^ k) (ahead 0) kp s.begins.time) (unclock-clock (10 ^ k) (ahead 0) kp (value e.on.from)))
        (time_text_back scale.time k kp (value g.on.from) h.from (subst (λ d. IsNumberText d (value g.on.from) h.from) is h.from_is));
    to_is = number_of_same scale.time (unclock (10 ^ k) (ahead 0) kp (value g.on.to)) (value e.on.to) h.to
        (same_trans (unclock_same (10 ^ k) (ahead 0) kp s.ends.time) (unclock-clock (10 ^ k) (ahead 0) kp (value e.on.to)))
        (time_text_back scale.time k kp (value g.on.to) h.to (subst (λ d. IsNumberText d (value g.on.to) h.to) is h.to_is));
    is = h.is
        ∙ ap (λ b. (if b then codes "[" else codes "(") ++ h.from ++ codes "," ++ h.to ++ (if g.on.to_in then codes "]" else codes ")")) s.begins.inside
        ∙ ap (λ b. (if e.on.from_in then codes "[" else codes "(") ++ h.from ++ codes "," ++ h.to ++ (if b then codes "]" else codes ")")) s.ends.inside;
  }

  module _ (f : Formula) where
    item_texts_back : (es gs : List Item) (text : List ℕ) → AreShownItems (10 ^ k) (ahead 0) kp es gs → AreItemLines other f gs text
        → AreItemLines scale f es text
    item_texts_back [] [] text s h = h
    item_texts_back [] (g ∷ gs) text s h = absurd s
    item_texts_back (e ∷ es) [] text s h = absurd s
    item_texts_back (e ∷ es) (g ∷ gs) text s (a, at, (name, on, later, named, span, rest, same)) = (
      a,
      subst (λ n. slice_get f.nodes n ≡ Some (Leaf a)) s.0.node at,
      (
        name,
        on,
        later,
        named,
        shown_text e g s.0 on span,
        item_texts_back es gs later s.1 rest,
        same ∙ ap (λ b. name ++ codes " " ++ bool_text b ++ codes " on " ++ on ++ newline ++ later) s.0.holds,
      ),
    )

    -- an entry of an item
    abbrev entry : List ℕ → List ℕ → Items → Bool → Items
    entry name on later b =
        item (object (member (codes "atom") (string name) (member (codes "on") (string on) (member (codes "value") (boolean b) no_members)))) later

    item_data_back : (es gs : List Item) (items : Items) → AreShownItems (10 ^ k) (ahead 0) kp es gs → AreItemData other f gs items
        → AreItemData scale f es items
    item_data_back [] [] items s h = h
    item_data_back [] (g ∷ gs) items s h = absurd s
    item_data_back (e ∷ es) [] items s h = absurd s
    item_data_back (e ∷ es) (g ∷ gs) items s (a, at, (name, on, later, named, span, rest, same)) = (
      a,
      subst (λ n. slice_get f.nodes n ≡ Some (Leaf a)) s.0.node at,
      (
        name,
        on,
        later,
        named,
        shown_text e g s.0 on span,
        item_data_back es gs later s.1 rest,
        same ∙ ap (entry name on later) s.0.holds,
      ),
    )

  verdict_data_back : (verdicts : List Verdict) (e : HasEnds (10 ^ k) (ahead 0) kp verdicts) (items : Items) → AreVerdictData other verdicts items
      → AreVerdictData scale (verdicts_back (10 ^ k) (ahead 0) kp verdicts e) items
  verdict_data_back [] e items h = h
  verdict_data_back (v ∷ verdicts) e items (on, later, h, rest, same) = (
    on,
    later,
    record {
      from = h.from;
      to = h.to;
      from_is = end_text k kp scale other is (value v.on.from) e.0 h.from h.from_is;
      to_is = end_text k kp scale other is (value v.on.to) e.1 h.to h.to_is;
      is = h.is;
    },
    verdict_data_back verdicts e.2 later rest,
    same,
  )

-- ---- the laws

module _ (f : Formula) (tr : Trace) (k m : ℕ) (formed : IsWellFormed f) (ok : IsTrace tr) (range : AreInRange tr.rows)
    (ft : f.scale.time ≤ tr.header.scale.time) (fv : f.scale.value ≤ tr.header.scale.value) where
  abbrev ur : Trace
  ur = finer k m tr

  abbrev tree : Subformula
  tree = root (nodes_for f tr)

  same : root (nodes_for f ur) ≡ finer_tree (10 ^ k) (10 ^ m) tree
  same = root_finer f tr.header.scale k m ft fv

  calms : (i : ℕ) → HasCalmAtoms (2 ^ 31) tr (subformula (nodes_for f tr) i)
  calms i = subformula_calm tr range _ _ f.nodes i formed.nodes.atoms

  start_back_by : Truth (root (nodes_for f ur)) ur (start ur) → Truth tree tr (start tr)
  start_back_by h =
      let c = finer_counts k m tr ok in
      (truth_by (10 ^ k) (ahead 0) (10 ^ m) (some_power k) (some_power m) c tree (start tr)).1
      (Truth-same (finer_tree (10 ^ k) (10 ^ m) tree) ur c.starts (subst (λ p. Truth p ur (start ur)) same h))

  start_forth_by : Truth tree tr (start tr) → Truth (root (nodes_for f ur)) ur (start ur)
  start_forth_by h =
      let c = finer_counts k m tr ok in
      subst (λ p. Truth p ur (start ur)) (sym same) (Truth-same (finer_tree (10 ^ k) (10 ^ m) tree) ur (same_sym c.starts)
      ((truth_by (10 ^ k) (ahead 0) (10 ^ m) (some_power k) (some_power m) c tree (start tr)).0 h))

  start_told : (b : Bool) → MatchBool b (Truth (root (nodes_for f ur)) ur (start ur)) (¬ Truth (root (nodes_for f ur)) ur (start ur))
      → MatchBool b (Truth tree tr (start tr)) (¬ Truth tree tr (start tr))
  start_told true h = start_back_by h
  start_told false h = λ x. h (start_forth_by x)

  start_line : (line : List ℕ) → IsStartLine (root (nodes_for f ur)) ur line → IsStartLine tree tr line
  start_line line (holds, h, e) = (holds, start_told holds h, e)

  abbrev AreShownBy : List Item → List Item → Type 0
  AreShownBy es gs = AreShownItems (10 ^ k) (ahead 0) (some_power k) es gs

  -- what explains the formula in smaller ticks is, taken back, what explains it
  explained_back : (lines' : List Item) → IsExplained f ur lines' → (lines : List Item) × AreShownBy lines lines' × IsExplained f tr lines
  explained_back lines' (inl (holds, none)) = ([], subst (λ xs. AreShownBy [] xs) (sym none) tt, inl (start_back_by holds, refl))
  explained_back lines' (inr (fails, (items', kept', joined'))) =
      let (items, s, kept) = kept_back (10 ^ k) (ahead 0) (10 ^ m) (some_power k) (some_power m) (finer_counts k m tr ok) (nodes_for f tr) calms items'
      (subst (λ nodes. Kept nodes ur items') (nodes_finer f tr.header.scale k m ft fv) kept') in
      let (lines, t, joined) = item_lines_back (10 ^ k) (ahead 0) (some_power k) items items' lines' s joined' in
      (lines, t, inr (λ x. fails (start_forth_by x), (items, kept, joined)))

  pub explain_came_from : (text : List ℕ) → Out explain f ur text → Out explain f tr text
  explain_came_from text (items', line, body, explained, starts, lines, is) =
      let (items, s, back) = explained_back items' explained in
      (items, line, body, back, start_line line starts, item_texts_back k (some_power k) tr.header.scale ur.header.scale refl f items items' body s lines, is)

  pub json_came_from : (text : List ℕ) → Out json f ur text → Out json f tr text
  json_came_from text (verdicts, knots, items', holds, report, told, margins, explained, truth, data_is, is) =
      let kp = some_power k in
      let mp = some_power m in
      let c = finer_counts k m tr ok in
      let fine_told = subst (λ p. Describes verdicts p ur (closed (start ur) (stop ur))) same told in
      let ends = has_ends (10 ^ k) (ahead 0) (10 ^ m) kp mp c tree (root_calm tr range _ _ f.nodes formed.nodes.atoms) verdicts fine_told in
      let (items, s, back) = explained_back items' explained in
      let change = from_clock (10 ^ k) (ahead 0) (10 ^ m) kp mp c tree in
      let (printed, entries, knot_entries, spans, printed_is, entries_are, knots_are, spans_are, object_is) = data_is in (
        verdicts_back (10 ^ k) (ahead 0) kp verdicts ends,
        knots_by change knots,
        items,
        holds,
        report,
        describe_back (10 ^ k) (ahead 0) (10 ^ m) kp mp c tree verdicts ends fine_told,
        describes_by change knots (subst (λ p. DescribesMargins knots p ur) same margins),
        back,
        start_told holds truth,
        (
          printed,
          entries,
          knot_entries,
          spans,
          printed_is,
          item_data_back k kp tr.header.scale ur.header.scale refl f items items' entries s entries_are,
          margin_data_by change ur.header.scale tr.header.scale (λ t x h. time_text_back tr.header.scale.time k kp t x h)
              (λ v x h. value_text_back tr.header.scale.value m mp v x h) knots knot_entries knots_are,
          verdict_data_back k kp tr.header.scale ur.header.scale refl verdicts ends spans spans_are,
          object_is,
        ),
        is,
      )

-- `explain` writes the same in smaller ticks
pub explain_is_of_units : ExplainIsOfUnits
explain_is_of_units f tr k m formed ok range ft fv text =
    (explain_keeps_its_text f tr k m ok ft fv text, explain_came_from f tr k m formed ok range ft fv text)

-- and so does `json`
pub json_is_of_units : JsonIsOfUnits
json_is_of_units f tr k m formed ok range ft fv text =
    (json_keeps_its_text f tr k m ok ft fv text, json_came_from f tr k m formed ok range ft fv text)
