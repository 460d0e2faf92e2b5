-- What is answered to a line, and what the end of the input adds.
use Rattle.std.proofs.Common.{◌≡◌, ◌≢◌, inl, inr, refl, sym, ap, subst, ◌∙◌, ℕ, zero, suc, ◌+◌, ◌<◌, ◌≤◌, Bool, true, false}
use Rattle.std.proofs.Common.{List, [], ◌∷◌, ◌++◌, append_assoc, length, take, drop, set, arith, add-one, Option, Some, None}
use Rattle.std.specs.Prelude.{bytes_eq, codes, slice_get, MatchBool}
use Rattle.std.proofs.lemmas.Bool.{cases_eq}
use Rattle.std.proofs.lemmas.List.{append-nil, take-append-drop, take_all}
use Rattle.std.proofs.lemmas.Slice.Eq.{bytes_eq-Decides}
use Rattle.rational.proofs.Lists.{slice_get-set_same, slice_get-set_other, drop_on}
use Rattle.stl_syntax.specs.Formula.{Formula}
use Rattle.answer_lines.proofs.Sequences.{take_at, place_inside}
use Rattle.trace_reader.specs.TraceText.{lines}
use Rattle.session_mux.specs.Sessions.{Tagged, IsTag, IsAnswer, AreEnds, prefixed, last_eight}
use Rattle.session_mux.specs.Tags.{number_of}
use Rattle.session_mux.specs.Saying.{said_lines}
use Rattle.session_mux.specs.Owning.{Own, own_of, asks, with_content, stopped_now}
use Rattle.session_mux.specs.Standing.{IsOwnText, HasSaidSoFar, IsGrowth, IsReply, HasReplied, IsCutShort}
use Rattle.session_mux.specs.Knowing.{Register, place_in, tags_of, tag_list, EachHasSaid, EachHasEnded, AreFound}
use Rattle.session_mux.specs.Knowing.{IsReady, IsTurnedAway, HasAnswered, IsUnanswered, HasEnded}
use Rattle.session_mux.specs.declared.fault.MuxFault.{MuxFault}
use Rattle.session_mux.specs.declared.fault.MuxFault.TheVariants as fault
use Rattle.session_mux.specs.declared.known.Known.{Known}
use Rattle.session_mux.specs.declared.session.Session.{Session}
use Rattle.session_mux.proofs.OwnLemmas.{own_grows, own_stays}
use Rattle.session_mux.proofs.SessionLemmas.{Grows, growth_once, cut_as, cut_none}
use Rattle.session_mux.proofs.KnowingLemmas.{item_of_set, one_item, tags_of_set}

-- the reply of the line's session is the answer
module _ (f : Formula) (seen : List Tagged) (x : Tagged) where
  abbrev now : Own
  now = own_of seen x.tag

  grows : with_content (own_of seen x.tag) x.content ≡ own_of (seen ++ x ∷ []) x.tag
  grows = sym (own_grows seen x x.tag ((bytes_eq-Decides x.tag x.tag).1 refl))

  abbrev Answer : Own → List ℕ → Type 0
  Answer p reply =
      MatchBool (asks x.content)
      ((old : List ℕ) × IsOwnText f (own_of seen x.tag) old × (reply ≡ prefixed (x.tag ++ codes " ? ") (last_eight (lines true old))))
      (IsGrowth f x.tag (own_of seen x.tag) p reply)

  -- a reply by what the session has got is the answer to the line among all lines
  pub answer_of : (reply : List ℕ) → IsReply f x.tag (own_of seen x.tag) x.content reply → IsAnswer f seen x reply
  answer_of reply h = subst (λ (p : Own). Answer p reply) grows h

  -- the answer to the line among all lines is a reply by what the session has got
  pub reply_of_answer : (reply : List ℕ) → IsAnswer f seen x reply → IsReply f x.tag (own_of seen x.tag) x.content reply
  reply_of_answer reply h = subst (λ (p : Own). Answer p reply) (sym grows) h

-- what was ready, once its session took the line
module _ (f : Formula) (seen : List Tagged) (x : Tagged) (i : ℕ) (mid : Register) (r : IsReady f seen x i mid) where
  abbrev Reply : List ℕ → Type 0
  Reply = IsReply f x.tag (own_of seen x.tag) x.content

  inside : i < length mid.sessions
  inside = place_inside mid.sessions i r.session r.at

  -- the session that was found stands for what its own lines got
  pub stands_for : (said : List ℕ) × HasSaidSoFar f (own_of seen x.tag) said r.session
  stands_for = subst (λ t. (said : List ℕ) × HasSaidSoFar f (own_of seen t) said r.session) r.tag (r.said i r.session r.at).1

  module _ (s : Session) (before after : List ℕ) (h : HasReplied f (with_content (own_of seen x.tag) x.content) r.session s Reply before after) where
    same_tag : s.tag ≡ x.tag
    same_tag = h.tag ∙ r.tag

    each_said : EachHasSaid f (seen ++ x ∷ []) (set mid.sessions i s)
    each_said j t at = elim (item_of_set mid.sessions i j s t inside at) [
      | inl k ↦ subst (λ (u : Session). IsTag u.tag × ((said : List ℕ) × HasSaidSoFar f (own_of (seen ++ x ∷ []) u.tag) said u)) (sym k.1) (
        subst (λ w. IsTag w) (sym h.tag) (r.said i r.session r.at).0,
        (
          h.said,
          subst (λ w. HasSaidSoFar f (own_of (seen ++ x ∷ []) w) h.said s) (sym same_tag)
              (subst (λ (o : Own). HasSaidSoFar f o h.said s) (grows f seen x) h.stands),
        ),
      )
      | inr k ↦ (
        (r.said j t k.1).0,
        (
          (r.said j t k.1).1.0,
          subst (λ (o : Own). HasSaidSoFar f o (r.said j t k.1).1.0 t)
              (sym (own_stays seen x t.tag (apart j t k.0 k.1))) (r.said j t k.1).1.1,
        ),
      )
    ]
      where
        apart : (j : ℕ) (t : Session) → j ≢ i → slice_get mid.sessions j ≡ Some t → bytes_eq x.tag t.tag ≡ false
        apart j t ne at = by_test (bytes_eq x.tag t.tag) refl
          where
            by_test : (b : Bool) → bytes_eq x.tag t.tag ≡ b → b ≡ false
            by_test false e = refl
            by_test true e =
                let same : x.tag ≡ t.tag = (bytes_eq-Decides x.tag t.tag).0 e in
                let here : place_in mid.places (number_of t.tag) ≡ Some i =
                ap (λ w. place_in mid.places (number_of w)) (sym same ∙ sym r.tag) ∙ r.found.at i r.session r.at in
                let there = r.found.at j t at in
                absurd (ne (let z : Some j ≡ Some i = sym there ∙ here in cc))

    are_found : AreFound (set mid.sessions i s) mid.places
    are_found = record {
      at = λ j t at. elim (item_of_set mid.sessions i j s t inside at) [
        | inl k ↦ ap (λ w. place_in mid.places (number_of w)) (ap (λ (u : Session). u.tag) k.1 ∙ h.tag) ∙ r.found.at i r.session r.at ∙ ap Some (sym k.0)
        | inr k ↦ r.found.at j t k.1
      ];
      only = λ n j e.
          let (t, at, same) = r.found.only n j e in
          elim (cases_eq j i) [
            | inl k ↦ (
              s,
              subst (λ m. slice_get (set mid.sessions i s) m ≡ Some s) (sym k) (slice_get-set_same mid.sessions i s inside),
              ap number_of h.tag ∙ ap (λ (u : Session). number_of u.tag)
                  (one_item (slice_get mid.sessions i) r.session t r.at (subst (λ m. slice_get mid.sessions m ≡ Some t) k at)) ∙ same,
            )
            | inr ne ↦ (t, slice_get-set_other mid.sessions i j s ne ∙ at, same)
          ];
    }

    -- with the session put back in its place the line is answered
    pub has_answered : (new : Register) → new.formula ≡ mid.formula → new.sessions ≡ set mid.sessions i s
        → new.places ≡ mid.places → HasAnswered f seen x new before after
    has_answered new e1 e2 e3 = record {
      knows = record {
        formula = e1 ∙ r.formula;
        tags = ap tag_list e2 ∙ tags_of_set mid.sessions i r.session s r.at h.tag ∙ r.tags;
        said = subst (λ ss. EachHasSaid f (seen ++ x ∷ []) ss) (sym e2) each_said;
        found = subst (λ ss. AreFound ss new.places) (sym e2) (subst (λ (p : List (ℕ × ℕ)). AreFound (set mid.sessions i s) p) (sym e3) are_found);
      };
      room = r.room;
      answer = h.reply;
      is = answer_of f seen x h.reply h.is;
      added = h.added;
    }

-- at most a first part of the reply is a first part of the answer
pub cut_answer : (f : Formula) (seen : List Tagged) (x : Tagged) (before after : List ℕ)
    → IsCutShort (IsReply f x.tag (own_of seen x.tag) x.content) before after → IsCutShort (IsAnswer f seen x) before after
cut_answer f seen x before after h = cut_as (IsReply f x.tag (own_of seen x.tag) x.content) (IsAnswer f seen x) before after (reply_of_answer f seen x) h

-- ---- the end

module _ (f : Formula) (all : List Tagged) where
  abbrev Ends : List ℕ → List ℕ → Type 0
  Ends t reply = IsGrowth f t (own_of all t) (stopped_now (own_of all t)) reply

  ends_once : (t a b : List ℕ) → Ends t a → Ends t b → a ≡ b
  ends_once t a b (old, grown, was, is, e) h =
      let g : Grows f (own_of all t) (stopped_now (own_of all t)) old grown = record { was = was; is = is } in
      sym (growth_once g t b h ∙ sym e)

  -- one session more
  ends_more : (ts : List (List ℕ)) (t text reply : List ℕ) → AreEnds f all ts text → Ends t reply → AreEnds f all (ts ++ t ∷ []) (text ++ reply)
  ends_more [] t text reply none (old, grown, was, is, e) =
      (old, grown, [], was, is, refl, ap (λ w. w ++ reply) none ∙ e ∙ sym (append-nil (said_lines t grown)))
  ends_more (u ∷ ts) t text reply (old, grown, later, was, is, more, e) h =
      (old, grown, later ++ reply, was, is, ends_more ts t later reply more h, ap (λ w. w ++ reply) e ∙ append_assoc (said_lines u grown) later reply)

  -- the ends of some sessions, and of the others
  ends_part : (ts us : List (List ℕ)) (text : List ℕ) → AreEnds f all (ts ++ us) text
      → (a b : List ℕ) × AreEnds f all ts a × AreEnds f all us b × (text ≡ a ++ b)
  ends_part [] us text h = ([], text, refl, h, refl)
  ends_part (t ∷ ts) us text (old, grown, later, was, is, more, e) =
      let (a, b, front, back, k) = ends_part ts us later more in (
        said_lines t grown ++ a,
        b,
        (old, grown, a, was, is, front, refl),
        back,
        e ∙ ap (λ w. said_lines t grown ++ w) k ∙ sym (append_assoc (said_lines t grown) a b),
      )

  ends_same : (ts : List (List ℕ)) (a b : List ℕ) → AreEnds f all ts a → AreEnds f all ts b → a ≡ b
  ends_same [] a b h k = h ∙ sym k
  ends_same (t ∷ ts) a b (old, grown, later, was, is, more, e) (old', grown', later', was', is', more', e') =
      e ∙ ap (λ w. w ++ later) (ends_once t (said_lines t grown) (said_lines t grown') (old, grown, was, is, refl) (old', grown', was', is', refl))
      ∙ ap (λ w. said_lines t grown' ++ w) (ends_same ts later later' more more') ∙ sym e'

  -- a session is over, and stands for its own lines and their end
  abbrev pub IsOver : Session → Type 0
  IsOver s = IsTag s.tag × ((said : List ℕ) × HasSaidSoFar f (stopped_now (own_of all s.tag)) said s)

  -- the sessions before place i were ended
  pub record Ending (first : List Session) (i : ℕ) (now : List Session) (before after : List ℕ) : Type 0 where
    -- the text of the sessions that were ended so far
    pub text : List ℕ
    -- it is what they are owed at the end, in the order of their first lines
    pub ends : AreEnds f all (take i (tag_list first)) text
    -- it was put behind what stood before
    pub added : after ≡ before ++ text
    -- the sessions that are not yet ended are as at first
    pub others : (j : ℕ) → i ≤ j → slice_get now j ≡ slice_get first j
    -- the others are over, and stand for their own lines and their end
    pub over : (j : ℕ) (s : Session) → j < i → slice_get now j ≡ Some s → IsOver s

  -- before the first session nothing was ended or added
  pub ending_begins : (first : List Session) (before : List ℕ) → Ending first 0 first before before
  ending_begins first before = record {
    text = [];
    ends = refl;
    added = sym (append-nil before);
    others = λ j l. refl;
    over = λ j s l e. absurd (omega (arith, l));
  }

  tag_at : (ss : List Session) (i : ℕ) (s : Session) → slice_get ss i ≡ Some s → slice_get (tag_list ss) i ≡ Some s.tag
  tag_at [] i s e = absurd (let z : None ≡ Some s = e in cc)
  tag_at (x ∷ ss) zero s e = ap (λ (o : Option Session). option_tag o) e
    where
      option_tag : Option Session → Option (List ℕ)
      option_tag None = None
      option_tag (Some t) = Some t.tag
  tag_at (x ∷ ss) (suc i) s e = tag_at ss i s e

  module _ (first : List Session) (i : ℕ) (now : List Session) (before mid : List ℕ) (n : Ending first i now before mid)
      (s : Session) (at : slice_get now i ≡ Some s) where
    at_first : slice_get first i ≡ Some s
    at_first = sym (n.others i (omega arith)) ∙ at

    tags_more : take (i + 1) (tag_list first) ≡ take i (tag_list first) ++ s.tag ∷ []
    tags_more = rw add-one (take_at (tag_list first) i s.tag (tag_at first i s at_first))

    -- one more was
    pub ending_on : (t : Session) (reply after : List ℕ) → Ends s.tag reply → after ≡ mid ++ reply → IsOver t
        → Ending first (i + 1) (set now i t) before after
    ending_on t reply after h e ended = record {
      text = n.text ++ reply;
      ends = subst (λ ts. AreEnds f all ts (n.text ++ reply)) (sym tags_more) (ends_more (take i (tag_list first)) s.tag n.text reply n.ends h);
      added = e ∙ ap (λ w. w ++ reply) n.added ∙ append_assoc before n.text reply;
      others = λ j l. slice_get-set_other now i j t (λ same. absurd (omega (arith, l, same))) ∙ n.others j (omega (arith, l));
      over = λ j u l k. elim (item_of_set now i j t u (place_inside now i s at) k) [
        | inl x ↦ subst IsOver (sym x.1) ended
        | inr x ↦ n.over j u (omega (arith, l, x.0)) x.1
      ];
    }

    -- it was cut short
    pub ending_cut : (after : List ℕ) → IsCutShort (Ends s.tag) mid after → IsCutShort (AreEnds f all (tag_list first)) before after
    ending_cut after c = record {
      first = n.text ++ c.first;
      added = c.added ∙ ap (λ w. w ++ c.first) n.added ∙ append_assoc before n.text c.first;
      begins = λ reply h.
          let parts = ends_part (take i (tag_list first)) (drop i (tag_list first)) reply (subst (λ ts. AreEnds f all ts reply)
          (sym (take-append-drop i (tag_list first))) h) in
          let same = ends_same (take i (tag_list first)) parts.0 n.text parts.2 n.ends in
          let here = first_end s.tag (drop (suc i) (tag_list first)) parts.1 (subst (λ ts. AreEnds f all ts parts.1)
          (drop_on (tag_list first) i s.tag (tag_at first i s at_first)) parts.3) in
          let (rest, k) = c.begins here.0 here.1 in (
            rest ++ here.2,
            parts.4 ∙ ap (λ w. w ++ parts.1) same ∙ ap (λ w. n.text ++ w) (here.3 ∙ ap (λ w. w ++ here.2) k ∙ append_assoc c.first rest here.2)
                ∙ sym (append_assoc n.text c.first (rest ++ here.2)),
          );
    }
      where
        first_end : (t : List ℕ) (ts : List (List ℕ)) (text : List ℕ) → AreEnds f all (t ∷ ts) text
            → (reply : List ℕ) × Ends t reply × (later : List ℕ) × (text ≡ reply ++ later)
        first_end t ts text (old, grown, later, was, is, more, e) = (said_lines t grown, (old, grown, was, is, refl), later, e)

-- all were
pub ended_all : (f : Formula) (all : List Tagged) (first : List Session) (now : List Session) (i : ℕ) (before after : List ℕ)
    → Ending f all first i now before after → length (tag_list first) ≤ i
    → tag_list first ≡ tags_of all → HasEnded f all before after
ended_all f all first now i before after n whole e =
    (n.text, subst (λ ts. AreEnds f all ts n.text) (take_all i (tag_list first) whole ∙ e) n.ends, n.added)

-- so all are over
pub all_over : (f : Formula) (all : List Tagged) (first : List Session) (now : List Session) (i : ℕ) (before after : List ℕ)
    → Ending f all first i now before after → length now ≤ i → EachHasEnded f all now
all_over f all first now i before after n whole j s at = n.over j s (omega (arith, whole, place_inside now j s at)) at

-- why a line was not answered
pub unanswered : (f : Formula) (seen : List Tagged) (x : Tagged) (old new : Known) (out : List ℕ) (e : MuxFault)
    → IsTurnedAway seen x old new e → IsUnanswered f seen x old new out out e
unanswered f seen x old new out fault.TooManySessions h = (h, refl)
unanswered f seen x old new out fault.Memory h = cut_none (IsAnswer f seen x) out out refl
unanswered f seen x old new out fault.BadTag h = absurd h
unanswered f seen x old new out fault.Stopped h = absurd h
unanswered f seen x old new out fault.Ended h = absurd h
