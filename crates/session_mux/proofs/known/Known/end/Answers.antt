use Rattle.std.proofs.Common.{◌≡◌, sym, subst, ◌∙◌, refl, List, ℕ, ◌<◌, length, arith, Some, get_or}
use Rattle.std.specs.Prelude.{slice_get}
use Rattle.std.proofs.lemmas.Option.{slice_get_read}
use Rattle.std.proofs.lemmas.Result.{err_from_is_err_and}
use Rattle.std.proofs.lemmas.List.{length-set}
use Rattle.stl_syntax.specs.Formula.{Formula}
use Rattle.session_mux.specs.Sessions.{Tagged, IsTag, AreEnds}
use Rattle.session_mux.specs.Owning.{own_of, stopped_now}
use Rattle.session_mux.specs.Standing.{HasSaidSoFar, IsGrowth, HasReplied, IsCutShort}
use Rattle.session_mux.specs.Knowing.{shown, Knows}
use Rattle.session_mux.specs.declared.known.Known.{Known}
use Rattle.session_mux.specs.declared.session.Session.{Session}
use Rattle.session_mux.proofs.AnsweringLemmas.{IsOver, Ending, all_over, ending_begins, ending_on, ending_cut, ended_all}
use Rattle.session_mux.proofs.KnowingLemmas.{tag_count, tags_of_set}
use Rattle.session_mux.proofs.known.Known.end.Goals as goal

pub loop-place-init : goal.loop-place-init
loop-place-init c = record { ending = λ f seen k. ending_begins f seen c.args.self.now.sessions.items c.args.out.now; tags = refl; formula = refl; size = refl }

-- the session that is read
here : (items : List Session) (i : ℕ) (s : Session) → i < length items → s ≡ get_or items i s → slice_get items i ≡ Some s
here items i s within e = slice_get_read items (length items) i s refl within e

-- it stands for its own lines
own_here : (f : Formula) (seen : List Tagged) (first now : List Session) (i : ℕ) (before mid : List ℕ) (k : Known) (s : Session)
    → Knows f seen (shown k) → first ≡ k.sessions.items → Ending f seen first i now before mid
    → slice_get now i ≡ Some s → IsTag s.tag × ((said : List ℕ) × HasSaidSoFar f (own_of seen s.tag) said s)
own_here f seen first now i before mid k s knows same n at =
    knows.said i s (subst (λ ss. slice_get ss i ≡ Some s) same (sym (n.others i (omega arith)) ∙ at))

said_here : (f : Formula) (seen : List Tagged) (first now : List Session) (i : ℕ) (before mid : List ℕ) (k : Known) (s : Session)
    → Knows f seen (shown k) → first ≡ k.sessions.items → Ending f seen first i now before mid
    → slice_get now i ≡ Some s → (said : List ℕ) × HasSaidSoFar f (own_of seen s.tag) said s
said_here f seen first now i before mid k s knows same n at = (own_here f seen first now i before mid k s knows same n at).1

-- once it was ended it is over
over_now : (f : Formula) (seen : List Tagged) (s t : Session) (Reply : List ℕ → Type 0) (before after : List ℕ) → IsTag s.tag
    → HasReplied f (stopped_now (own_of seen s.tag)) s t Reply before after → IsOver f seen t
over_now f seen s t Reply before after is r = (
  subst (λ w. IsTag w) (sym r.tag) is,
  (r.said, subst (λ w. HasSaidSoFar f (stopped_now (own_of seen w)) r.said t) (sym r.tag) r.stands),
)

pub end-requires : goal.end-requires
end-requires c =
    let (f, seen, k) = c.requires in
    let n = c.loop-place.invariant.ending f seen k in
    let items = c.loop-place.self.sessions.items in
    let at = here items c.loop-place.place c.index_mut.result.now
    (omega (arith, c.loop-place.invariant.size, c.loop-place-test.true, c.args.self.now.sessions.ok.0)) c.index_mut.ensures.value in
    let said = said_here f seen c.args.self.now.sessions.items items c.loop-place.place c.args.out.now c.loop-place.out
    c.args.self.now c.index_mut.result.now k refl n at in
    (f, own_of seen c.index_mut.result.now.tag, said.0, said.1)

pub returns-in_err-end-clause-ended : goal.returns-in_err-end-clause-ended
returns-in_err-end-clause-ended c =
    let p = err_from_is_err_and c.from_residual.result c.from_residual.ensures.1 in
    rw p.1 (λ f seen k.
    let n = c.loop-place.invariant.ending f seen k in
    let first = c.args.self.now.sessions.items in
    let items = c.loop-place.self.sessions.items in
    let s = c.index_mut.result.now in
    let at = here items c.loop-place.place s
    (omega (arith, c.loop-place.invariant.size, c.loop-place-test.true, c.args.self.now.sessions.ok.0)) c.index_mut.ensures.value in
    let said = said_here f seen first items c.loop-place.place c.args.out.now c.loop-place.out c.args.self.now s k refl n at in
    subst (λ ts. IsCutShort (AreEnds f seen ts) c.args.out.now c.end.new.out) k.tags
    (ending_cut f seen first c.loop-place.place items c.args.out.now c.loop-place.out n s at c.end.new.out
    (c.in_err-end.ensures.replied f (own_of seen s.tag) said.0 said.1)))

pub returns-in_err-end-clause-tags : goal.returns-in_err-end-clause-tags
returns-in_err-end-clause-tags c =
    let items = c.loop-place.self.sessions.items in
    let s = c.index_mut.result.now in
    let at = here items c.loop-place.place s
    (omega (arith, c.loop-place.invariant.size, c.loop-place-test.true, c.args.self.now.sessions.ok.0)) c.index_mut.ensures.value in
    tags_of_set items c.loop-place.place s c.end.new.self at c.in_err-end.ensures.tag ∙ c.loop-place.invariant.tags

pub returns-in_err-end-clause-few : goal.returns-in_err-end-clause-few
returns-in_err-end-clause-few c = length-set c.loop-place.self.sessions.items c.loop-place.place c.end.new.self ∙ c.loop-place.invariant.size

pub loop-place-preserved : goal.loop-place-preserved
loop-place-preserved c =
    let items = c.loop-place.self.sessions.items in
    let place = c.loop-place.place in
    let s = c.index_mut.result.now in
    let at = here items place s (omega (arith, c.loop-place.invariant.size, c.loop-place-test.true, c.args.self.now.sessions.ok.0)) c.index_mut.ensures.value in
    let first = c.args.self.now.sessions.items in
    let replied : (f : Formula) (seen : List Tagged) (k : Knows f seen (shown c.args.self.now)) → HasReplied f (stopped_now (own_of seen s.tag))
    s c.end.new.self (IsGrowth f s.tag (own_of seen s.tag) (stopped_now (own_of seen s.tag))) c.loop-place.out c.end.new.out =
    λ f seen k.
    let said = said_here f seen first items place c.args.out.now c.loop-place.out c.args.self.now s k refl (c.loop-place.invariant.ending f seen k) at in
    c.in_ok-end.ensures.replied f (own_of seen s.tag) said.0 said.1 in
    record {
      ending = λ f seen k.
          let r = replied f seen k in
          ending_on f seen first place items c.args.out.now c.loop-place.out
          (c.loop-place.invariant.ending f seen k) s at c.end.new.self r.reply c.end.new.out r.is r.added
          (over_now f seen s c.end.new.self _ _ _
          (own_here f seen first items place c.args.out.now c.loop-place.out c.args.self.now s k refl (c.loop-place.invariant.ending f seen k) at).0 r);
      tags = tags_of_set items place s c.end.new.self at c.in_ok-end.ensures.tag ∙ c.loop-place.invariant.tags;
      formula = c.loop-place.invariant.formula;
      size = length-set items place c.end.new.self ∙ c.loop-place.invariant.size;
    }

pub returns-clause-ended : goal.returns-clause-ended
returns-clause-ended c = λ f seen k.
    let first = c.args.self.now.sessions.items in (
      ended_all f seen first c.loop-place.self.sessions.items c.loop-place.place c.args.out.now c.loop-place.out (c.loop-place.invariant.ending f seen k)
          (omega (arith, tag_count first, c.loop-place-test.false, c.args.self.now.sessions.ok.0)) k.tags,
      record {
        formula = c.loop-place.invariant.formula ∙ k.formula;
        tags = c.loop-place.invariant.tags ∙ k.tags;
        ended = all_over f seen first c.loop-place.self.sessions.items c.loop-place.place c.args.out.now c.loop-place.out
            (c.loop-place.invariant.ending f seen k)
            (omega (arith, c.loop-place.invariant.size, c.loop-place-test.false, c.args.self.now.sessions.ok.0));
      },
    )
