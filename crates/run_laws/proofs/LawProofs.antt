-- The laws of runs.
use Rattle.std.proofs.Common.{◌≡◌, ◌≢◌, ℕ, Bool, true, false, List, ◌++◌, refl, sym, ap, ◌∙◌, subst}
use Rattle.std.proofs.Common.{[], append_assoc, append-nil, Some}
use Rattle.std.proofs.lemmas.Bool.{false≢true}
use Rattle.std.specs.Io.KnownBytes.{IsAtEnd}
use Rattle.io_edge.specs.Calls.{Drained, Filled}
use Rattle.workbench.specs.Requests.{Request, Asks, has_input}
use Rattle.workbench.specs.Owed.{Owes}
use Rattle.workbench.specs.Ended.{EndsWith}
use Rattle.workbench.specs.Running.{IsEnd, IsReadOut, IsRun}
use Rattle.promises.proofs.CompleteRuns.{rest_of}
use Rattle.promises.proofs.OneRequest.{one_request}
use Rattle.run_laws.specs.OneAnswer.{HoldTheSame, TellTheSame, OneAnswer, OneAnswerToWords, IsOwn, IsFront}
use Rattle.run_laws.specs.OneAnswer.{FrontOfTheAnswer, FrontOfMore}
use Rattle.run_laws.proofs.Endings.{IsEnding}
use Rattle.run_laws.proofs.OneEnding.{AreOne, one_ending}
use Rattle.run_laws.proofs.Fronts.{ending_is_owed, front_of_end, front_of_unread}
use Rattle.run_laws.proofs.NoInput.{unread_once}
use Rattle.run_laws.proofs.OwnEnds.{HasOwnEnd, has_own_end, own_ending, HowEnded, known, starved, how_ended, none_left_at_end}

module _ {words asked : List (List ℕ)} {i j : Drained} {o e p g : Filled} {status other : ℕ} (a : IsRun words i o e status) (b : IsRun asked j p g other)
    (narrow : status ≢ 8) (thin : other ≢ 8) where
  -- two runs of one request over one input told the same
  of_request : (request : Request) (x : HasOwnEnd words i a.bytes a.text status a.line) (y : HasOwnEnd asked j b.bytes b.text other b.line)
      → x.request ≡ request → y.request ≡ request → (has_input request ≡ true → HoldTheSame i j) → TellTheSame a b
  of_request request x y same also held = by_input (has_input request) refl
    where
      one : AreOne status other a.line b.line a.text b.text → TellTheSame a b
      one r = record { same_status = r.status; same_text = r.texts; same_line = r.lines }

      by_input : (k : Bool) → has_input request ≡ k → TellTheSame a b
      by_input true has =
          let h = held has in
          one (one_ending request h.bytes has narrow thin
          (subst (λ (q : Request). IsEnding q h.bytes status a.line a.text) same (own_ending h.bytes x (ap has_input same ∙ has) h.first a.moved))
          (subst (λ (q : Request). IsEnding q h.bytes other b.line b.text) also (own_ending h.bytes y (ap has_input also ∙ has) h.second b.moved)))
      by_input false has =
          one (unread_once request a.bytes b.bytes i.ended j.ended has
          (subst (λ (q : Request). EndsWith a.bytes i.ended q status a.line a.text) same x.is)
          (subst (λ (q : Request). EndsWith b.bytes j.ended q other b.line b.text) also y.is))

-- two runs of one request told the same
pub one_answer : OneAnswer
one_answer request words asked i j o e p g status other ask also held a b own still narrow thin =
    let x = has_own_end own a.ended in
    let y = has_own_end still b.ended in
    of_request a b narrow thin request x y (one_request words x.request request x.asks ask) (one_request asked y.request request y.asks also) held

-- so did two runs of one list of words
pub one_answer_to_words : OneAnswerToWords
one_answer_to_words words i j o e p g status other held a b own still narrow thin =
    let x = has_own_end own a.ended in
    let y = has_own_end still b.ended in
    of_request a b narrow thin y.request x y (one_request words x.request y.request x.asks y.asks) refl (λ has. held)

-- ---- fronts

module _ {words asked : List (List ℕ)} {i j : Drained} {o e p g : Filled} {status other : ℕ} (a : IsRun words i o e status) (b : IsRun asked j p g other)
    (request : Request) (ask : Asks words request) (also : Asks asked request) (own : IsOwn other) (thin : other ≢ 8) where
  y : HasOwnEnd asked j b.bytes b.text other b.line
  y = has_own_end own b.ended

  there : y.request ≡ request
  there = one_request asked y.request request y.asks also

  -- what the first wrote is the front of what the second did, whose source held the bytes of the first, and maybe more
  of_more : (bytes more : List ℕ) → i.before ≡ Some bytes → j.before ≡ Some (bytes ++ more) → has_input request ≡ true
      → ((left : List ℕ) → i.after ≡ Some left → i.ended ≡ true → left ++ more ≡ []) → IsEnd request i o a.bytes a.text status a.line
      → IsFront a.text b.text
  of_more bytes more held source has at end =
      let (left, after, parts) = rest_of i.before i.after bytes a.bytes held a.moved in
      let whole : bytes ++ more ≡ a.bytes ++ (left ++ more) = ap (λ bs. bs ++ more) parts ∙ append_assoc a.bytes left more in
      let ending = subst (λ (q : Request). IsEnding q (bytes ++ more) other b.line b.text) there
      (own_ending (bytes ++ more) y (ap has_input there ∙ has) source b.moved) in
      front_of_end (left ++ more) b.text has (at left after) end (subst (λ bs. Owes request bs true b.text) whole (ending_is_owed has thin ending))

  -- so it is however the first ended, where it is so for a request with input
  of_any : (has_input request ≡ true → (status ≢ 7 → IsReadOut i) → IsEnd request i o a.bytes a.text status a.line → IsFront a.text b.text)
      → IsFront a.text b.text
  of_any with_input = by_how (how_ended a.ended)
    where
      by_input : (k : Bool) → has_input request ≡ k → (status ≢ 7 → has_input request ≡ true → IsReadOut i)
          → IsEnd request i o a.bytes a.text status a.line → IsFront a.text b.text
      by_input true has out end = with_input has (λ n. out n has) end
      by_input false has out end =
          front_of_unread b.bytes b.line b.text j.ended has end (subst (λ (q : Request). EndsWith b.bytes j.ended q other b.line b.text) there y.is)

      by_how : HowEnded words i o a.bytes a.text status a.line → IsFront a.text b.text
      by_how (starved none e) = (b.text, ap (λ t. t ++ b.text) (sym none))
      by_how (known mine asks out end) =
          let same = one_request words mine request asks ask in
          by_input (has_input request) refl (λ n has. out n (ap has_input same ∙ has))
          (subst (λ (q : Request). IsEnd q i o a.bytes a.text status a.line) same end)

-- what any run wrote is the front of the answer
pub front_of_the_answer : FrontOfTheAnswer
front_of_the_answer request words asked i j o e p g status other ask also held a b truly own thin = of_any a b request ask also own thin with_input
  where
    with_input : has_input request ≡ true → (status ≢ 7 → IsReadOut i) → IsEnd request i o a.bytes a.text status a.line → IsFront a.text b.text
    with_input has out end =
        let h = held has in
        of_more a b request ask also own thin h.bytes [] h.first (subst (λ bs. j.before ≡ Some bs) (sym (append-nil h.bytes)) h.second) has
        (λ left after said. append-nil left ∙ subst IsAtEnd after (none_left_at_end truly out said)) end

-- what a run wrote before the end of its source was known is the front of the answer to more
pub front_of_more : FrontOfMore
front_of_more request words asked i j o e p g status other ask also held unended a b own thin = of_any a b request ask also own thin with_input
  where
    with_input : has_input request ≡ true → (status ≢ 7 → IsReadOut i) → IsEnd request i o a.bytes a.text status a.line → IsFront a.text b.text
    with_input has out end =
        let h = held has in
        of_more a b request ask also own thin h.bytes h.more h.first h.second has
        (λ left after said. absurd (false≢true (sym unended ∙ said))) end
