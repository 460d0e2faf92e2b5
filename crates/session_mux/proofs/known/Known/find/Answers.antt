use Rattle.std.proofs.Common.{◌≡◌, sym, ap, subst, ◌∙◌, length, arith}
use Rattle.std.proofs.lemmas.List.{take_all}
use Rattle.std.proofs.lemmas.Result.{err_from_is_err_and}
use Rattle.session_mux.specs.Sessions.{IsTag}
use Rattle.session_mux.specs.Tags.{number_of}
use Rattle.session_mux.specs.Knowing.{shown, place_in}
use Rattle.session_mux.proofs.KnowingLemmas.{found_is, first_kept, ready_known, ready_new, turned_away, begun_as}
use Rattle.session_mux.proofs.known.Known.find.Goals as goal

pub returns-in-Some-clause-ready : goal.returns-in-Some-clause-ready
returns-in-Some-clause-ready c = λ f seen x k same.
    let old = shown c.args.self.now in
    let number : c.number_of-number.result ≡ number_of x.tag = c.number_of-number.ensures ∙ ap number_of (sym same) in
    ready_known f seen x c.in-Some.place old k
    (found_is f seen old.sessions old.places x.tag c.in-Some.place k.said k.found (subst (λ t. IsTag t) (sym same) c.requires.tag)
    (sym (c.in-Some.ensures ∙ ap (λ n. place_in old.places n) number)))

pub returns-in_err-place-clause-ready : goal.returns-in_err-place-clause-ready
returns-in_err-place-clause-ready c =
    let p = err_from_is_err_and c.from_residual.result c.from_residual.ensures.1 in
    rw (p.1, p.2) (λ f seen x k same.
    let number : c.number_of-number.result ≡ number_of x.tag = c.number_of-number.ensures ∙ ap number_of (sym same) in
    turned_away f seen x c.args.self.now c.begin.new.self c.in_err-place.field-0.0 k
    (sym (c.in_default.ensures ∙ ap (λ n. place_in c.args.self.now.places.entries n) number)) c.in_err-place.ensures.begun)

pub returns-clause-ready : goal.returns-clause-ready
returns-clause-ready c = λ f seen x k same.
    let number : c.number_of-number.result ≡ number_of x.tag = c.number_of-number.ensures ∙ ap number_of (sym same) in
    ready_new f seen x c.in_ok-place.place c.args.self.now c.begin.new.self k (subst (λ t. IsTag t) (sym same) c.requires.tag)
    (sym (c.in_default.ensures ∙ ap (λ n. place_in c.args.self.now.places.entries n) number))
    (begun_as c.args.tag.now x.tag c.number_of-number.result c.in_ok-place.place c.args.self.now c.begin.new.self
    (sym same) c.number_of-number.ensures c.in_ok-place.ensures.begun)

pub returns-in-Some-clause-kept : goal.returns-in-Some-clause-kept
returns-in-Some-clause-kept c = take_all (length c.args.self.now.sessions.items) c.args.self.now.sessions.items (omega arith)

pub returns-clause-kept : goal.returns-clause-kept
returns-clause-kept c =
    let b = c.in_ok-place.ensures.begun in
    first_kept c.args.self.now.sessions.items b.session c.begin.new.self.sessions.items b.sessions
