use Rattle.std.proofs.Common.{◌≡◌, ◌∙◌, take, set, sym, ap, subst, refl, List, [], ℕ, ◌<◌, length, arith, Some, get_or}
use Rattle.std.specs.Prelude.{slice_get}
use Rattle.std.proofs.lemmas.Option.{slice_get_read}
use Rattle.std.proofs.lemmas.Result.{err_from_is_err_and}
use Rattle.std.proofs.lemmas.List.{length-set}
use Rattle.answer_lines.proofs.Sequences.{place_inside}
use Rattle.session_mux.specs.Sessions.{Tagged}
use Rattle.session_mux.specs.Owning.{own_of, with_content}
use Rattle.session_mux.specs.Standing.{HasSaidSoFar, HasReplied, HasSaidSome, IsReply, IsCutShort}
use Rattle.session_mux.specs.Knowing.{shown, tag_list}
use Rattle.session_mux.specs.declared.session.Session.{Session}
use Rattle.session_mux.proofs.AnsweringLemmas.{unanswered, stands_for, has_answered, cut_answer}
use Rattle.session_mux.proofs.KnowingLemmas.{one_item, tags_kept}
use Rattle.session_mux.proofs.known.Known.answer.Goals as goal

pub returns-in_err-place-clause-answered : goal.returns-in_err-place-clause-answered
returns-in_err-place-clause-answered c =
    let p = err_from_is_err_and c.from_residual.result c.from_residual.ensures.1 in
    rw (p.1, p.2) (λ f seen x k same e.
    unanswered f seen x c.args.self.now c.place_for.new.self c.args.out.now c.in_err-place.field-0.0
    (c.in_err-place.ensures.ready f seen x k same))

pub index_mut-requires : goal.index_mut-requires
index_mut-requires c =
    let (f, seen, k) = c.requires.known in
    let r = c.in_ok-place.ensures.ready f seen (record { tag = c.args.tag.now; content = [] }) k refl in
    let within : c.in_ok-place.place < length c.place_for.new.self.sessions.items =
    place_inside c.place_for.new.self.sessions.items c.in_ok-place.place r.session r.at in
    omega (arith, c.place_for.new.self.sessions.ok.0, within)

pub line-requires-clause-said : goal.line-requires-clause-said
line-requires-clause-said c =
    let (f, seen, k) = c.requires.known in
    let x : Tagged = record { tag = c.args.tag.now; content = [] } in
    let r = c.in_ok-place.ensures.ready f seen x k refl in
    let items = c.place_for.new.self.sessions.items in
    let place = c.in_ok-place.place in
    let got : slice_get items place ≡ Some c.index_mut.result.now =
    slice_get_read items (length items) place c.index_mut.result.now refl (place_inside items place r.session r.at) c.index_mut.ensures.value in
    let said = stands_for f seen x place (shown c.place_for.new.self) r in
    subst (λ (s : Session). HasSaidSome s) (one_item (slice_get items place) r.session c.index_mut.result.now r.at got) (f, own_of seen x.tag, said.0, said.1)

-- the session at the place is the one that was read
read_is : (items : List Session) (place : ℕ) (s read : Session) → slice_get items place ≡ Some s → read ≡ get_or items place read → s ≡ read
read_is items place s read at e =
    one_item (slice_get items place) s read at (slice_get_read items (length items) place read refl (place_inside items place s at) e)

pub returns-in-Ok-clause-answered : goal.returns-in-Ok-clause-answered
returns-in-Ok-clause-answered c = λ f seen x k same e.
    let mid = c.place_for.new.self in
    let place = c.in_ok-place.place in
    let r = c.in_ok-place.ensures.ready f seen x k same in
    let said = stands_for f seen x place (shown mid) r in
    let read = read_is mid.sessions.items place r.session c.index_mut.result.now r.at c.index_mut.ensures.value in
    let o = own_of seen x.tag in
    let replied = c.in-Ok.ensures.replied f o said.0 x.content (subst (λ (s : Session). HasSaidSoFar f o said.0 s) read said.1) e in
    has_answered f seen x place (shown mid) r c.line.new.self c.args.out.now c.line.new.out
    (subst (λ t. HasReplied f (with_content o x.content) r.session c.line.new.self (IsReply f t o x.content) c.args.out.now c.line.new.out) r.tag
    (subst (λ (s : Session). HasReplied f (with_content o x.content) s c.line.new.self (IsReply f s.tag o x.content) c.args.out.now c.line.new.out) (sym read)
    replied))
    _ refl refl refl

pub returns-in-Err-clause-answered : goal.returns-in-Err-clause-answered
returns-in-Err-clause-answered c = λ f seen x k same e.
    let mid = c.place_for.new.self in
    let place = c.in_ok-place.place in
    let r = c.in_ok-place.ensures.ready f seen x k same in
    let said = stands_for f seen x place (shown mid) r in
    let read = read_is mid.sessions.items place r.session c.index_mut.result.now r.at c.index_mut.ensures.value in
    let o = own_of seen x.tag in
    let cut = c.in-Err.ensures.replied f o said.0 x.content (subst (λ (s : Session). HasSaidSoFar f o said.0 s) read said.1) e in
    cut_answer f seen x c.args.out.now c.line.new.out
    (subst (λ t. IsCutShort (IsReply f t o x.content) c.args.out.now c.line.new.out) r.tag
    (subst (λ (s : Session). IsCutShort (IsReply f s.tag o x.content) c.args.out.now c.line.new.out) (sym read) cut))

-- a session that was begun for the line is gone, and the others have their tags
pub returns-in-Err-clause-untaken : goal.returns-in-Err-clause-untaken
returns-in-Err-clause-untaken c =
    let (f, seen, k) = c.requires.known in
    let r = c.in_ok-place.ensures.ready f seen (record { tag = c.args.tag.now; content = [] }) k refl in
    let old = c.args.self.now.sessions.items in
    let mid = c.place_for.new.self.sessions.items in
    let place = c.in_ok-place.place in
    let got : slice_get mid place ≡ Some c.index_mut.result.now =
    slice_get_read mid (length mid) place c.index_mut.result.now refl (place_inside mid place r.session r.at) c.index_mut.ensures.value in
    let all : c.len-held.result ≡ length old = omega (arith, c.len-held.ensures, c.args.self.now.sessions.ok.0) in
    ap tag_list (c.truncate.ensures.items ∙ ap (λ n. take n (set mid place c.line.new.self)) all)
    ∙ tags_kept old mid place c.index_mut.result.now c.line.new.self c.in_ok-place.ensures.kept got c.in-Err.ensures.tag

pub returns-in-Err-clause-few : goal.returns-in-Err-clause-few
returns-in-Err-clause-few c =
    let mid = c.place_for.new.self.sessions.items in
    omega (arith, c.truncate.ensures.len, length-set mid c.in_ok-place.place c.line.new.self, c.in_ok-place.ensures.few)
