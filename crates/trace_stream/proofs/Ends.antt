-- What the end of the bytes comes to.
use Rattle.std.proofs.Common.{◌≡◌, ◌⊎◌, inl, inr, ℕ, ◌+◌, ◌<◌, ◌≤◌, Bool, true, false, List, [], ◌∷◌, ◌++◌, length, take, refl}
use Rattle.std.proofs.Common.{sym, ap, ◌∙◌, subst, arith, append-nil, length-append, Option, Some, None}
use Rattle.std.specs.Prelude.{MatchOption, option_map}
use Rattle.std.proofs.lemmas.List.{take_all}
use Rattle.std.proofs.lemmas.List.Elements.{All-nil}
use Rattle.stl_syntax.specs.Formula.{Formula}
use Rattle.stl_syntax.specs.Trace.{Row, Header, Trace, AreRows, last_time}
use Rattle.stl_syntax.specs.WellFormed.{IsScale}
use Rattle.stl_syntax.specs.declared.scale.Scale.{Scale}
use Rattle.trace_reader.specs.TraceText.{lines, Heading, scale_of, AreTraceLines}
use Rattle.trace_reader.specs.TraceRefusals.{FaultFrom, IsFirstFault, HasTrace}
use Rattle.trace_reader.specs.Reader.{Reader, StandsFor, IsNextRow, IsWholeTrace, HasWholeHeader, header_of}
use Rattle.trace_reader.specs.declared.refusal.Limits.{Limits}
use Rattle.trace_reader.specs.declared.refusal.TraceRefusal.{TraceRefusal}
use Rattle.trace_reader.specs.declared.refusal.TraceKind.TheVariants.{NoRows}
use Rattle.trace_reader.specs.declared.event.Event.TheVariants.{Row as IsARow}
use Rattle.trace_reader.proofs.LineLemmas.{rest, lines-rest}
use Rattle.trace_reader.specs.InputFaults.{Fault, of_trace, IsHeaderAt, IsLack, IsInputFault}
use Rattle.trace_stream.specs.Cases.{IsLacking, IsCase, IsNoBegin, IsHeaderOf, with_row, CanKeep}
use Rattle.trace_stream.specs.CaseReader.{IsEnded, IsRefused, HasCase, IsKept, HasHeader, IsLastFault, of_header, own}
use Rattle.trace_stream.specs.declared.case.Case.{Case}
use Rattle.trace_stream.specs.declared.fault.StreamStop.{StreamStop}
use Rattle.trace_stream.specs.declared.fault.StreamStop.TheVariants.{Fault as Faulty, NoMemory, Wide}
use Rattle.trace_stream.proofs.HeaderLines.{header_once, header_read, header_within, no_rows_in, heading_is, ticks_small}
use Rattle.trace_stream.proofs.FaultPlaces.{IsAtEndOf, after_header, fault_within, clean_from}
use Rattle.trace_stream.proofs.OneLine.{one_left}
use Rattle.trace_stream.proofs.KeptOfBytes.{no_lack, same_header, lacking_same, header_beyond, lines_few, blank_front}

rest_size : (e d : Bool) (xs : List ℕ) → length (rest e xs) ≡ length (rest d xs)
rest_size e d [] = refl
rest_size e d (x ∷ xs) = refl

module _ {r : Reader} {bytes : List ℕ} {rows : List Row} (s : StandsFor r bytes rows) where
  lines_now : (e : Bool) → lines e bytes ≡ s.taken.front ++ lines e r.line
  lines_now e = ap (lines e) (sym (append-nil bytes)) ∙ s.taken.joins e [] ∙ ap (λ b. s.taken.front ++ lines e b) (append-nil r.line)

  -- the last line counts, whether it is whole or not
  lines_count : length (lines true bytes) ≡ r.begun
  lines_count =
      ap (λ ls. length ls) (lines_now true) ∙ length-append s.taken.front (lines true r.line)
      ∙ ap (λ n. length s.taken.front + n) (ap (λ ls. length ls) (lines-rest true r.line s.taken.free)
      ∙ rest_size true false r.line ∙ sym (ap (λ ls. length ls) (lines-rest false r.line s.taken.free)))
      ∙ sym (ap (λ ls. length ls) (lines_now false) ∙ length-append s.taken.front (lines false r.line)) ∙ sym s.taken.begun

  -- where no header was read, that of all bytes is in their last line
  last_header : r.heading ≡ None → {n : ℕ} {h : Heading} → IsHeaderAt (lines true bytes) n h → n ≡ length (lines true bytes)
  last_header first {n} {h} at =
      let beyond = header_beyond s first true [] (subst (λ b. IsHeaderAt (lines true b) n h) (sym (append-nil bytes)) at) in
      let few = ap (λ b. length (lines true b)) (append-nil bytes) in
      let most = lines_few s first true [] (inl (All-nil (λ c. c ≡ 10 → ⊥))) in
      omega (arith, beyond, (header_within at).1, few, most)

  -- and there are no rows after it
  no_rows_yet : r.heading ≡ None → {least : Scale} {header : Header} {later : List Row} → AreTraceLines least (lines true bytes) header later → later ≡ []
  no_rows_yet first {least} {header} {later} read =
      no_rows_in s.taken.front (lines true r.line) (blank_front s first) (one_left true r.line s.taken.free)
      (subst (λ ls. AreTraceLines least ls header later) (lines_now true) read)

-- the trace of all bytes has the header that was read
whole_header : (f : Formula) (old : Reader) (o : Option Heading) (case : Option Case) (bytes : List ℕ)
    (k : IsKept f old case bytes) (limits : Limits) (h : Heading) (later : List Row) → old.heading ≡ o
    → HasCase f o bytes k.rows case → HasTrace bytes limits f.scale (record { header = header_of f.scale h; rows = later })
    → (c : Case) × (case ≡ Some c) × IsCase f c × (c.trace.rows ≡ k.rows) × IsHeaderOf f bytes c.trace.header × (c.trace.header ≡ header_of f.scale h)
whole_header f old None case bytes k limits h later first t whole =
    let none : later ≡ [] = no_rows_yet k.stands first whole.text.read in
    absurd (subst (λ rs. AreRows (length h.columns) rs) none whole.text.rising.rows)
whole_header f old (Some g) None bytes k limits h later first t whole = absurd t
whole_header f old (Some g) (Some c) bytes k limits h later first t whole = (c, refl, t.0, t.1, t.2, same_header t.2 true h whole.text.read)

-- the case of all bytes
ended_is : (f : Formula) (bytes : List ℕ) (limits : Limits) (h : Heading) (later : List Row) (c : Case) → IsCase f c
    → c.trace.rows ≡ later → IsHeaderOf f bytes c.trace.header
    → c.trace.header ≡ header_of f.scale h → HasTrace bytes limits f.scale (record { header = header_of f.scale h; rows = later }) → IsEnded limits f bytes c
ended_is f bytes limits h later c fits rows header same whole = record {
  whole = record {
    trace = subst (λ (t : Trace). HasTrace bytes limits f.scale t) (sym trace) whole;
    sound = λ x fault. none x fault;
  };
  case = fits;
}
  where
    trace : c.trace ≡ record { header = header_of f.scale h; rows = later }
    trace = ap (λ (g : Header). record { header = g; rows = c.trace.rows }) same ∙ ap (λ rs. record { header = header_of f.scale h; rows = rs }) rows

    none : (x : Fault) → ¬ IsInputFault limits f bytes true x
    none x (inl lack) = no_lack header limits true [] x (subst (λ b. IsLack limits f b true x) (sym (append-nil bytes)) lack)
    none x (inr (known, (r, first, e))) = whole.sound r first

module _ (f : Formula) (old new : Reader) (case : Option Case) (bytes : List ℕ) (k : IsKept f old case bytes)
    (limits : new.limits ≡ old.limits) (least : new.least ≡ old.least) where
  as_whole : (later : List Row) → IsWholeTrace new bytes later → (h : Heading) × (new.heading ≡ Some h)
      × HasTrace bytes old.limits f.scale (record { header = header_of f.scale h; rows = later })
  as_whole later (h, some, whole) = (
    h,
    some,
    subst (λ (s : Scale). HasTrace bytes old.limits s (record { header = header_of s h; rows = later })) (least ∙ k.least)
        (subst (λ (l : Limits). HasTrace bytes l new.least (record { header = header_of new.least h; rows = later })) limits whole),
  )

  -- without a row more
  pub ended_now : IsWholeTrace new bytes k.rows → MatchOption case ⊥ (IsEnded old.limits f bytes)
  ended_now w =
      let (h, some, whole) = as_whole k.rows w in
      let (c, is, fits, rows, header, same) = whole_header f old old.heading case bytes k old.limits h k.rows refl k.has_case whole in
      subst (λ o. MatchOption o ⊥ (IsEnded old.limits f bytes)) (sym is) (ended_is f bytes old.limits h k.rows c fits rows header same whole)

  -- with one row more
  pub ended_row : (r : Row) → IsWholeTrace new bytes (k.rows ++ r ∷ []) → MatchOption (option_map (with_row r) case) ⊥ (IsEnded old.limits f bytes)
  ended_row r w =
      let (h, some, whole) = as_whole (k.rows ++ r ∷ []) w in
      let (c, is, fits, rows, header, same) = whole_header f old old.heading case bytes k old.limits h (k.rows ++ r ∷ []) refl k.has_case whole in
      subst (λ o. MatchOption (option_map (with_row r) o) ⊥ (IsEnded old.limits f bytes)) (sym is)
      (ended_is f bytes old.limits h (k.rows ++ r ∷ []) (with_row r c) (record { formula = fits.formula; bound = fits.bound })
      (ap (λ rs. rs ++ r ∷ []) rows) header same whole)

  -- which can be kept
  pub end_can : (r : Row) → IsWholeTrace new bytes (k.rows ++ r ∷ []) → IsNextRow IsARow new.heading k.rows r → CanKeep case r
  end_can r w next =
      let (h, some, whole) = as_whole (k.rows ++ r ∷ []) w in
      let (c, is, fits, rows, header, same) = whole_header f old old.heading case bytes k old.limits h (k.rows ++ r ∷ []) refl k.has_case whole in
      let (width, later) = subst (λ o. IsNextRow IsARow o k.rows r) some next in
      subst (λ o. CanKeep o r) (sym is)
      (width ∙ ap (λ (x : Header). length x.columns) (sym same), subst (λ (rs : List Row). 0 < length rs → last_time 0 rs < r.time) (sym rows) later)

  -- the header of bytes without rows
  pub has_header : HasWholeHeader new bytes → HasHeader f new
  has_header (h, some, read) =
      let (n, g, at, e) = header_read read in
      let (fs, is) = heading_is at in
      let same : scale_of f.scale h ≡ scale_of f.scale g = ap (λ (s : Scale). scale_of s h) (sym (least ∙ k.least))
      ∙ (ap (λ (x : Header). x.scale) e ∙ ap (λ (s : Scale). scale_of s g) (least ∙ k.least)) in
      record {
        heading = h;
        read = some;
        least = least ∙ k.least;
        ticks = subst (λ (s : Scale). IsScale s) (sym same) (ticks_small f.scale fs g k.ticks is);
      }

  module _ (x : TraceRefusal) (first : IsFirstFault bytes true old.limits old.least x)
      (header : x.kind ≡ NoRows → HasWholeHeader new bytes) (line : x.line ≡ old.begun) where
    here : FaultFrom old.limits f.scale true 1 (lines true bytes) x
    here = subst (λ (s : Scale). FaultFrom old.limits s true 1 (lines true bytes) x) k.least first

    -- the header of bytes without rows, in their last line
    in_last : old.heading ≡ None → x.kind ≡ NoRows → (h : Heading) → new.heading ≡ Some h
        → (g : Heading) × IsHeaderAt (lines true bytes) x.line g × (header_of f.scale h ≡ header_of f.scale g) × (x.line ≡ length (lines true bytes))
    in_last none end h some =
        let (h', some', read) = header end in
        let (n, g, at, e) = header_read read in
        let mine : h' ≡ h = (let p = sym some' ∙ some in cc) in
        let place : n ≡ length (lines true bytes) = last_header k.stands none at in
        let told : x.line ≡ length (lines true bytes) = line ∙ sym (lines_count k.stands) in (
          g,
          subst (λ m. IsHeaderAt (lines true bytes) m g) (place ∙ sym told) at,
          ap (λ (y : Heading). header_of f.scale y) (sym mine) ∙ ap (λ (s : Scale). header_of s h') (sym (least ∙ k.least)) ∙ e
              ∙ ap (λ (s : Scale). header_of s g) (least ∙ k.least),
          told,
        )

    no_lack_now : ((o : Option Heading) → old.heading ≡ o → HasCase f o bytes k.rows case → (y : Fault) → ¬ IsLack old.limits f bytes true y)
        → IsInputFault old.limits f bytes true (of_trace x)
    no_lack_now none = inr (λ y lack. none old.heading refl k.has_case y lack, (x, here, refl))

    no_heading_yet : (o : Option Heading) → HasCase f o bytes k.rows case → case ≡ None → o ≡ None
    no_heading_yet None t e = refl
    no_heading_yet (Some h) t e = absurd (subst (λ c. HasCase f (Some h) bytes k.rows c) e t)

    lacks_nothing : (case ≡ None → x.kind ≡ NoRows → (h : Heading) → new.heading ≡ Some h → (y : Fault) → ¬ IsLacking f x.line h y)
        → (o : Option Heading) → old.heading ≡ o → HasCase f o bytes k.rows case → (y : Fault) → ¬ IsLack old.limits f bytes true y
    lacks_nothing fits None none t y (n, g, at, lacking, clean) = by_place (after_header old.limits true x f.scale 1 (lines true bytes) at clean here)
      where
        by_place : (1 + n ≤ x.line) ⊎ IsAtEndOf true x → ⊥
        by_place (inl after) =
            omega (arith, after, last_header k.stands none at, fault_within old.limits true x f.scale 1 (lines true bytes) (omega arith) here)
        by_place (inr (truth, end)) =
            let (h, some, read) = header end in
            let (g', at', agree, told) = in_last none end h some in
            let e = header_once at at' in
            fits t end h some y (subst (λ m. IsLacking f m h y) e.0 (lacking_same f n g h y (ap (header_of f.scale) e.1 ∙ sym agree) lacking))
    lacks_nothing fits (Some h) some t y lack = by_case case t
      where
        by_case : (c : Option Case) → HasCase f (Some h) bytes k.rows c → ⊥
        by_case None t = t
        by_case (Some c) t = no_lack t.2 old.limits true [] y (subst (λ b. IsLack old.limits f b true y) (sym (append-nil bytes)) lack)

    from_header : (stop : StreamStop) (h : Heading) → case ≡ None → x.kind ≡ NoRows → new.heading ≡ Some h
        → IsNoBegin f x.line h stop → IsRefused old.limits f true bytes stop
    from_header (Faulty fault) h none end some (y, is, lacking) =
        let first_none = no_heading_yet old.heading k.has_case none in
        let (g, at, agree, told) = in_last first_none end h some in
        let clean : (r : TraceRefusal) → ¬ FaultFrom old.limits f.scale false 1 (take x.line (lines true bytes)) r =
        λ r fault. clean_from old.limits f.scale x end 1 (lines true bytes) here r
        (subst (λ ls. FaultFrom old.limits f.scale false 1 ls r) (take_all x.line (lines true bytes) (omega (arith, told))) fault) in
        (y, is, inl (x.line, g, at, lacking_same f x.line h g y agree lacking, clean))
    from_header NoMemory h none end some no_begin = tt
    from_header (Wide i den) h none end some no_begin = no_begin

    -- the first fault of all bytes
    pub refused_end : (stop : StreamStop) → IsLastFault f new case x stop → IsRefused old.limits f true bytes stop
    refused_end stop (of_header h none end some no_begin) = from_header stop h none end some no_begin
    refused_end stop (own fits) = (of_trace x, refl, no_lack_now (lacks_nothing fits))
