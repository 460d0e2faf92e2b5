-- Of two refusals for a denominator over one input, what one wrote is the front of what the other did.
use Rattle.std.proofs.Common.{◌≡◌, ◌⊎◌, inl, inr, ℕ, Bool, true, false, List, [], ◌∷◌, ◌++◌, refl, sym, ap, ◌∙◌, subst, append-nil, append_assoc, Some}
use Rattle.stl_syntax.specs.Formula.{Formula, root}
use Rattle.stl_syntax.specs.Scaling.{scaled}
use Rattle.stl_syntax.specs.Trace.{Header, Row}
use Rattle.online_nodes.specs.MarginStream.{IsMarginStream}
use Rattle.trace_reader.specs.InputFaults.{AreRowsBefore, sound}
use Rattle.trace_reader.specs.declared.refusal.Limits.{Limits}
use Rattle.trace_stream.specs.Wides.{IsWideRows, at_row, at_end, IsWideByRow}
use Rattle.trace_stream.proofs.MarginTexts.{margin_stream_grows}
use Rattle.trace_stream.proofs.RowsBefore.{GoesOnFrom, from_none, from_some, rows_go_on, rows_once}
use Rattle.run_laws.specs.OneAnswer.{AreOnOneLine}

-- of two fronts of one list one goes on from the other
two_fronts : {X : Type 0} (a b u v : List X) → a ++ u ≡ b ++ v → ((m : List X) × (b ≡ a ++ m)) ⊎ ((m : List X) × (a ≡ b ++ m))
two_fronts [] b u v e = inl (b, refl)
two_fronts (x ∷ a) [] u v e = inr (x ∷ a, refl)
two_fronts (x ∷ a) (y ∷ b) u v e =
    let here : x ≡ y = cc in
    let later : a ++ u ≡ b ++ v = cc in elim (two_fronts a b u v later) [
      | inl (m, k) ↦ inl (m, ap (λ z. z ∷ b) (sym here) ∙ ap (λ l. x ∷ l) k)
      | inr (m, k) ↦ inr (m, ap (λ z. z ∷ a) here ∙ ap (λ l. y ∷ l) k)
    ]

turned : {text said : List ℕ} → AreOnOneLine text said → AreOnOneLine said text
turned (inl h) = inr h
turned (inr h) = inl h

-- the text is that of the first of the rows
record IsTold (f : Formula) (header : Header) (rows : List Row) (text : List ℕ) : Type 0 where
  told : List Row
  rest : List Row
  parts : rows ≡ told ++ rest
  is : IsMarginStream (root (scaled f header.scale).nodes) header told false text

told_of : {f : Formula} {header : Header} {closed : Bool} {rows : List Row} {i den : ℕ} {text : List ℕ} → IsWideRows f header closed rows i den text
    → IsTold f header rows text
told_of (at_row before r needed is) = record { told = before; rest = r ∷ []; parts = refl; is = is }
told_of (at_end {rows = rows} needed is) = record { told = rows; rest = []; parts = sym (append-nil rows); is = is }

-- without rows there is none
told_none : {f : Formula} {header : Header} {rows : List Row} {text : List ℕ} → IsTold f header rows text → rows ≡ [] → text ≡ []
told_none {f} {header} {text = text} a none =
    subst (λ rs. IsMarginStream (root (scaled f header.scale).nodes) header rs false text → text ≡ [])
    (sym (empty a.told a.rest (sym a.parts ∙ none))) (λ k. k) a.is
  where
    empty : (rows more : List Row) → rows ++ more ≡ [] → rows ≡ []
    empty [] more e = refl
    empty (r ∷ rows) more e = absurd (let k = e in cc)

-- of rows, and of rows that go on from them
told_on : (f : Formula) (header : Header) (rows beyond : List Row) {text said : List ℕ} (a : IsTold f header rows text)
    (b : IsTold f header (rows ++ beyond) said) → AreOnOneLine text said
told_on f header rows beyond {text} {said} a b =
    let p = root (scaled f header.scale).nodes in
    let e : a.told ++ (a.rest ++ beyond) ≡ b.told ++ b.rest = sym (append_assoc a.told a.rest beyond) ∙ ap (λ r. r ++ beyond) (sym a.parts) ∙ b.parts in
    elim (two_fronts a.told b.told (a.rest ++ beyond) b.rest e) [
      | inl (m, k) ↦ inl (margin_stream_grows p header a.told m false text said a.is (subst (λ rs. IsMarginStream p header rs false said) k b.is))
      | inr (m, k) ↦ inr (margin_stream_grows p header b.told m false said text b.is (subst (λ rs. IsMarginStream p header rs false text) k a.is))
    ]

-- what was made of the first of the bytes
record IsSeen (limits : Limits) (f : Formula) (bytes text : List ℕ) : Type 0 where
  seen : List ℕ
  beyond : List ℕ
  parts : bytes ≡ seen ++ beyond
  seen_end : Bool
  at_end : seen_end ≡ true → beyond ≡ []
  header : Header
  rows : List Row
  before : AreRowsBefore limits f seen seen_end (Some header) rows seen_end
  told : IsTold f header rows text

seen_of : {limits : Limits} {f : Formula} {read text : List ℕ} {ended : Bool} {i den : ℕ} (left : List ℕ) → (ended ≡ true → left ≡ [])
    → IsWideByRow limits f read ended i den text → IsSeen limits f (read ++ left) text
seen_of left at w = record {
  seen = w.seen;
  beyond = w.later ++ left;
  parts = ap (λ r. r ++ left) w.parts ∙ append_assoc w.seen w.later left;
  seen_end = w.seen_end;
  at_end = λ e. let done = w.at_end e in ap (λ l. l ++ left) done.1 ∙ at done.0;
  header = w.header;
  rows = w.rows;
  before = sound w.sound w.read;
  told = told_of w.cause;
}

module _ {limits : Limits} {f : Formula} {bytes text said : List ℕ} (a : IsSeen limits f bytes text) (b : IsSeen limits f bytes said) where
  -- what was seen where it ended is all
  whole : b.seen_end ≡ true → b.seen ≡ bytes
  whole e = sym (b.parts ∙ ap (λ l. b.seen ++ l) (b.at_end e) ∙ append-nil b.seen)

  one_header : {h g : Header} → Some h ≡ Some g → h ≡ g
  one_header e = cc

  -- the second goes on from the first
  on : GoesOnFrom (Some a.header) a.rows (Some b.header) b.rows → AreOnOneLine text said
  on (from_none none) = inl (said, ap (λ t. t ++ said) (sym (told_none a.told none)))
  on (from_some same (more, e)) =
      told_on f a.header a.rows more a.told
      (subst (λ rs. IsTold f a.header rs said) e (subst (λ (h : Header). IsTold f h b.rows said) (one_header same) b.told))

  -- the first was seen before its end, and the second goes on from it
  open_first : a.seen_end ≡ false → (more : List ℕ) → b.seen ≡ a.seen ++ more → AreOnOneLine text said
  open_first e more k =
      on (rows_go_on limits f a.seen more b.seen_end (subst (λ (w : Bool). AreRowsBefore limits f a.seen w (Some a.header) a.rows w) e a.before)
      (subst (λ bs. AreRowsBefore limits f bs b.seen_end (Some b.header) b.rows b.seen_end) k b.before))

  -- both were seen to the end
  both_ended : a.seen_end ≡ true → b.seen_end ≡ true → a.seen ≡ bytes → b.seen ≡ bytes → AreOnOneLine text said
  both_ended e k mine yours =
      let first = subst (λ bs. AreRowsBefore limits f bs true (Some a.header) a.rows true) mine
      (subst (λ (w : Bool). AreRowsBefore limits f a.seen w (Some a.header) a.rows w) e a.before) in
      let second = subst (λ bs. AreRowsBefore limits f bs true (Some b.header) b.rows true) yours
      (subst (λ (w : Bool). AreRowsBefore limits f b.seen w (Some b.header) b.rows w) k b.before) in
      let once = rows_once limits f bytes true first second in
      on (from_some (sym once.same_header) ([], sym once.same_rows ∙ sym (append-nil a.rows)))

-- so one is the front of the other
on_one_line : {limits : Limits} {f : Formula} {bytes text said : List ℕ} → IsSeen limits f bytes text → IsSeen limits f bytes said
    → AreOnOneLine text said
on_one_line {limits} {f} {bytes} {text} {said} a b = by_ends a.seen_end refl b.seen_end refl
  where
    by_ends : (d : Bool) → a.seen_end ≡ d → (w : Bool) → b.seen_end ≡ w → AreOnOneLine text said
    by_ends true e true k = both_ended a b e k (whole b a e) (whole a b k)
    by_ends false e true k = open_first a b e a.beyond (whole a b k ∙ a.parts)
    by_ends true e false k = turned (open_first b a k b.beyond (whole b a e ∙ b.parts))
    by_ends false e false k = elim (two_fronts a.seen b.seen a.beyond b.beyond (sym a.parts ∙ b.parts)) [
      | inl (m, h) ↦ open_first a b e m h
      | inr (m, h) ↦ turned (open_first b a k m h)
    ]

-- what two streams of margins wrote before their refusals
pub wides_on_one_line : {limits : Limits} {f : Formula} {bytes read other text said : List ℕ} {ended also : Bool} {i k den den' : ℕ} (left rest : List ℕ)
    → (ended ≡ true → left ≡ []) → (also ≡ true → rest ≡ []) → bytes ≡ read ++ left → bytes ≡ other ++ rest
    → IsWideByRow limits f read ended i den text → IsWideByRow limits f other also k den' said → AreOnOneLine text said
wides_on_one_line {limits} {f} {bytes} {text = text} {said = said} left rest at end parts others w v =
    on_one_line (subst (λ bs. IsSeen limits f bs text) (sym parts) (seen_of left at w))
    (subst (λ bs. IsSeen limits f bs said) (sym others) (seen_of rest end v))
