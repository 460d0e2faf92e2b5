-- What is owed is one text, and only grows.
use Rattle.std.proofs.Common.{◌≡◌, inl, inr, ℕ, Bool, true, false, List, [], ◌∷◌, ◌++◌, refl, sym, ap, ◌∙◌, subst, append_assoc, append-nil}
use Rattle.std.specs.Prelude.{flat_map}
use Rattle.stl_syntax.specs.Formula.{Formula, root}
use Rattle.stl_syntax.specs.Knots.{Knot, Piece}
use Rattle.stl_syntax.specs.Verdicts.{KnotsAlike, PiecesAlike}
use Rattle.stl_syntax.specs.declared.scale.Scale.{Scale}
use Rattle.csv.specs.Writing.{row_text, default_writer}
use Rattle.stl_syntax.specs.Trace.{Trace}
use Rattle.stl_syntax.proofs.VerdictsLaw.{Describes-unique}
use Rattle.stl_syntax.proofs.MarginsLaw.{DescribesMargins-unique}
use Rattle.trace_reader.proofs.TraceRefusalLaw.{Trace-unique}
use Rattle.stl_syntax.specs.Scaling.{nodes_for}
use Rattle.report.specs.Report.{Command, check, robust, explain, json, table, Out}
use Rattle.report.specs.Table.{AreRecords, heading}
use Rattle.answer_lines.proofs.StreamTexts.{IsLonger}
use Rattle.trace_stream.proofs.OwedRows.{stream_owed_once, stream_owed_grows}
use Rattle.trace_stream.proofs.WideTexts.{AreFirst, wide_text_of_all}
use Rattle.session_laws.proofs.OwedLines.{lines_owed_once, lines_owed_grow}
use Rattle.answer_lines.proofs.OneText.{number_once, value_once, verdicts_once, start_once, margins_once}
use Rattle.promises.proofs.ExplainTexts.{explain_once}
use Rattle.promises.proofs.JsonTexts.{json_once}
use Rattle.workbench.specs.Requests.{Stream, verdicts, early, margins, stream, sessions}
use Rattle.workbench.specs.Running.{IsBegun, IsDue}
use Rattle.trace_stream.specs.CaseReader.{IsWhole}
use Rattle.workbench.specs.Owed.{OwesRows, OwesLines, HasTooMany, OwesAtEnd, not_yet as not_yet_owed, faulty, too_many, at_end as at_end_owed}
use Rattle.workbench.specs.InputFaults.{whole_limits}

-- ---- streams

-- what was owed for the first of the bytes, or for all of them, is the front of what is owed for all
owed_of_all : {f : Formula} {seen bytes : List ℕ} {ended : Bool} {text all : List ℕ} (s : Stream) (seen_end : Bool)
    → AreFirst seen seen_end bytes ended → OwesRows s f seen seen_end text → OwesRows s f bytes ended all → IsLonger text all
owed_of_all {f} {seen} {ended = ended} {text = text} {all = all} s false first o owed =
    stream_owed_grows s f seen first.later ended text all o (subst (λ bs. OwesRows s f bs ended all) first.parts owed)
owed_of_all {f} {seen} {bytes} {ended} {text} {all} s true first o owed =
    let done = first.at_end refl in
    let same : bytes ≡ seen = first.parts ∙ ap (λ l. seen ++ l) done.1 ∙ append-nil seen in (
      [],
      stream_owed_once s f seen true all text
          (subst (λ (e : Bool). OwesRows s f seen e all) done.0 (subst (λ bs. OwesRows s f bs ended all) same owed)) o ∙ sym (append-nil text),
    )

-- so is what is due for them
due_of_all : {f : Formula} {seen bytes : List ℕ} {ended : Bool} {all : List ℕ} (s : Stream) (seen_end : Bool) (text : List ℕ)
    → AreFirst seen seen_end bytes ended → IsDue (stream s f) seen seen_end text → OwesRows s f bytes ended all → IsLonger text all
due_of_all verdicts seen_end text first due owed = owed_of_all verdicts seen_end first due owed
due_of_all early seen_end text first due owed = owed_of_all early seen_end first due owed
due_of_all margins seen_end text first (inl due) owed = owed_of_all margins seen_end first due owed
due_of_all margins seen_end text first (inr (i, den, w)) owed = wide_text_of_all first w owed

-- what was written and a rest were due for the bytes that were answered: then it is the front of what is owed for all that were read
pub begun_of_all : (s : Stream) (f : Formula) (bytes : List ℕ) (ended : Bool) (text rest all : List ℕ)
    → IsBegun (stream s f) bytes ended text rest → OwesRows s f bytes ended all → IsLonger text all
begun_of_all s f bytes ended text rest all b owed =
    let first : AreFirst b.seen b.seen_end bytes ended = record { later = b.later; parts = b.parts; at_end = b.at_end } in
    let (more, e) = due_of_all s b.seen_end (text ++ rest) first b.owed owed in
    (rest ++ more, e ∙ append_assoc text rest more)

-- ---- several sessions

-- so it is of what several sessions had written
pub begun_of_lines : (f : Formula) (bytes : List ℕ) (ended : Bool) (text rest all : List ℕ)
    → IsBegun (sessions f) bytes ended text rest → OwesLines f bytes ended all → IsLonger text all
begun_of_lines f bytes ended text rest all b owed = by_end b.seen_end b.at_end b.owed
  where
    by_end : (e : Bool) → (e ≡ true → (ended ≡ true) × (b.later ≡ [])) → OwesLines f b.seen e (text ++ rest) → IsLonger text all
    by_end false at o =
        let (more, e) = lines_owed_grow f b.seen b.later ended (text ++ rest) all o (subst (λ bs. OwesLines f bs ended all) b.parts owed) in
        (rest ++ more, e ∙ append_assoc text rest more)
    by_end true at o =
        let done = at refl in
        let same : bytes ≡ b.seen = b.parts ∙ ap (λ l. b.seen ++ l) done.1 ∙ append-nil b.seen in (
          rest,
          lines_owed_once f b.seen true all (text ++ rest)
              (subst (λ (e : Bool). OwesLines f b.seen e all) done.0 (subst (λ bs. OwesLines f bs ended all) same owed)) o,
        )

-- ---- commands that hold the whole trace

-- the bytes are those of one trace
pub whole_once : (f : Formula) (bytes : List ℕ) (t u : Trace) → IsWhole whole_limits f bytes t → IsWhole whole_limits f bytes u → t ≡ u
whole_once f bytes t u a b = Trace-unique bytes f.scale t u a.trace.text b.trace.text

-- `check` writes one text
pub check_once : (f : Formula) (tr : Trace) (x y : List ℕ) → Out check f tr x → Out check f tr y → x ≡ y
check_once f tr x y (vs, body, line, a, lines, start, is) (ws, body', line', a', lines', start', is') =
    is ∙ ap (λ t. t ++ line) (verdicts_once tr.header.scale vs ws body body' (Describes-unique _ tr _ vs ws a a') lines lines')
    ∙ ap (λ t. body' ++ t) (start_once _ tr line line' start start') ∙ sym is'

robust_once : (f : Formula) (tr : Trace) (x y : List ℕ) → Out robust f tr x → Out robust f tr y → x ≡ y
robust_once f tr x y (ks, a, lines) (ls, b, others) =
    let e = DescribesMargins-unique (root (nodes_for f tr)) tr ks ls a b in margins_once tr.header.scale ks ls x y e.0 e.1 lines others

-- knots that are alike have one record
records_once : (scale : Scale) (k l : Knot) (ps qs : List Piece) (xs ys : List (List (List ℕ))) → KnotsAlike k l
    → PiecesAlike ps qs → AreRecords scale k ps xs → AreRecords scale l qs ys → xs ≡ ys
records_once scale k l [] [] xs ys e h (t, v, t_is, v_is, is) (t', v', t_is', v_is', is') =
    is ∙ ap (λ a. (a ∷ v ∷ [] ∷ [] ∷ []) ∷ []) (number_once scale.time e.time t_is t_is')
    ∙ ap (λ a. (t' ∷ a ∷ [] ∷ [] ∷ []) ∷ []) (value_once scale.value k.value l.value e.value v_is v_is') ∙ sym is'
records_once scale k l [] (b ∷ qs) xs ys e h a c = absurd h
records_once scale k l (a ∷ ps) [] xs ys e h b c = absurd h
records_once scale k l (a ∷ ps) (b ∷ qs) xs ys e (from, to, next, more) (t, v, x, y, later, t_is, v_is, x_is, y_is, rest, is)
    (t', v', x', y', later', t_is', v_is', x_is', y_is', rest', is') =
    is ∙ ap (λ z. (z ∷ v ∷ x ∷ y ∷ []) ∷ later) (number_once scale.time e.time t_is t_is')
    ∙ ap (λ z. (t' ∷ z ∷ x ∷ y ∷ []) ∷ later) (value_once scale.value k.value l.value e.value v_is v_is')
    ∙ ap (λ z. (t' ∷ v' ∷ z ∷ y ∷ []) ∷ later) (value_once scale.value a.from b.from from x_is x_is')
    ∙ ap (λ z. (t' ∷ v' ∷ x' ∷ z ∷ []) ∷ later) (value_once scale.value a.to b.to to y_is y_is')
    ∙ ap (λ z. (t' ∷ v' ∷ x' ∷ y' ∷ []) ∷ z) (records_once scale a.next b.next ps qs later later' next more rest rest') ∙ sym is'

table_once : (f : Formula) (tr : Trace) (x y : List ℕ) → Out table f tr x → Out table f tr y → x ≡ y
table_once f tr x y (ks, a, (records, are, is)) (ls, b, (others, are', is')) =
    let e = DescribesMargins-unique (root (nodes_for f tr)) tr ks ls a b in
    is ∙ ap (λ rs. flat_map (row_text default_writer) (heading ∷ rs))
    (records_once tr.header.scale ks.first ls.first ks.pieces ls.pieces records others e.0 e.1 are are') ∙ sym is'

module _ (c : Command) (f : Formula) (one : (tr : Trace) (x y : List ℕ) → Out c f tr x → Out c f tr y → x ≡ y) where
  whole_owed_once : (bytes : List ℕ) (ended : Bool) (x y : List ℕ) → OwesAtEnd c f bytes ended x → OwesAtEnd c f bytes ended y → x ≡ y
  whole_owed_once bytes ended x y not_yet_owed not_yet_owed = refl
  whole_owed_once bytes ended x y (faulty a fault) (faulty b other) = refl
  whole_owed_once bytes ended x y (faulty a fault) (too_many tr n trace many) = refl
  whole_owed_once bytes ended x y (faulty a fault) (at_end_owed tr trace few out) = absurd (trace.sound a fault)
  whole_owed_once bytes ended x y (too_many tr n trace many) (faulty b other) = refl
  whole_owed_once bytes ended x y (too_many tr n trace many) (too_many tr' n' trace' many') = refl
  whole_owed_once bytes ended x y (too_many tr n trace many) (at_end_owed tr' trace' few out) =
      absurd (few n (subst (λ (t : Trace). HasTooMany c f t n) (whole_once f bytes tr tr' trace trace') many))
  whole_owed_once bytes ended x y (at_end_owed tr trace few out) (faulty b other) = absurd (trace.sound b other)
  whole_owed_once bytes ended x y (at_end_owed tr trace few out) (too_many tr' n trace' many) =
      absurd (few n (subst (λ (t : Trace). HasTooMany c f t n) (whole_once f bytes tr' tr trace' trace) many))
  whole_owed_once bytes ended x y (at_end_owed tr trace few out) (at_end_owed tr' trace' few' out') =
      one tr' x y (subst (λ (t : Trace). Out c f t x) (whole_once f bytes tr tr' trace trace') out) out'

-- each command that holds the whole trace is owed one text
pub check_owed_once : (f : Formula) (bytes : List ℕ) (ended : Bool) (x y : List ℕ) → OwesAtEnd check f bytes ended x → OwesAtEnd check f bytes ended y → x ≡ y
check_owed_once f bytes ended x y a b = whole_owed_once check f (check_once f) bytes ended x y a b

-- `robust` is owed one text
pub robust_owed_once : (f : Formula) (bytes : List ℕ) (ended : Bool) (x y : List ℕ) → OwesAtEnd robust f bytes ended x
    → OwesAtEnd robust f bytes ended y → x ≡ y
robust_owed_once f bytes ended x y a b = whole_owed_once robust f (robust_once f) bytes ended x y a b

-- `table` is owed one text
pub table_owed_once : (f : Formula) (bytes : List ℕ) (ended : Bool) (x y : List ℕ) → OwesAtEnd table f bytes ended x → OwesAtEnd table f bytes ended y → x ≡ y
table_owed_once f bytes ended x y a b = whole_owed_once table f (table_once f) bytes ended x y a b

-- `explain` is owed one text
pub explain_owed_once : (f : Formula) (bytes : List ℕ) (ended : Bool) (x y : List ℕ) → OwesAtEnd explain f bytes ended x
    → OwesAtEnd explain f bytes ended y → x ≡ y
explain_owed_once f bytes ended x y a b = whole_owed_once explain f (explain_once f) bytes ended x y a b

-- `json` is owed one text
pub json_owed_once : (f : Formula) (bytes : List ℕ) (ended : Bool) (x y : List ℕ) → OwesAtEnd json f bytes ended x → OwesAtEnd json f bytes ended y → x ≡ y
json_owed_once f bytes ended x y a b = whole_owed_once json f (json_once f) bytes ended x y a b
