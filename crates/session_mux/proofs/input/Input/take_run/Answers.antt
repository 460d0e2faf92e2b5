use Rattle.std.proofs.Common.{◌≡◌, Option, ◌+◌, ◌-◌, ◌++◌, take, length, List, ℕ, refl, sym, ap, subst, ◌∙◌, arith}
use Rattle.std.specs.Prelude.{option_copied}
use Rattle.std.proofs.lemmas.Result.{err_from_is_err_and}
use Rattle.session_mux.specs.Muxes.{Past}
use Rattle.session_mux.specs.Owning.{IsWithFeed}
use Rattle.session_mux.specs.Running.{IsJoined, HasGathered, contents_in}
use Rattle.session_mux.specs.Taking.{IsTaking}
use Rattle.session_mux.specs.declared.input.Input.{Input}
use Rattle.session_mux.proofs.RunInputs.{gathered_some, run_beyond, run_done, run_stopped}
use Rattle.session_mux.proofs.input.Input.take_run.Goals as goal

pub all_bytes-bytes-requires : goal.all_bytes-bytes-requires
all_bytes-bytes-requires c =
    subst (λ p. IsJoined p c.args.piece.now c.join.new.room) (c.bytes.ensures ∙ sym c.bytes-2.ensures) c.in-Ok.ensures

pub front_of-requires : goal.front_of-requires
front_of-requires c =
    let r = c.requires in
    let past : Past = record { formula = r.formula; seen = r.is.taken.tagged } in
    (past, r.is.taken.stands)

-- the contents, as they stand in the room that was lent
contents_are : (lone : Option (List ℕ)) (used : ℕ) {contents lent room : List ℕ} → contents ≡ contents_in lone (take used lent) → lent ≡ room
    → contents ≡ contents_in lone (take used room)
contents_are lone used e same = e ∙ ap (λ r. contents_in lone (take used r)) same

pub hand_run-requires-clause-feed : goal.hand_run-requires-clause-feed
hand_run-requires-clause-feed c =
    subst (λ (b : List ℕ). IsWithFeed b)
    (sym (contents_are (option_copied c.in-Ok-gather.run'.lone) c.in-Ok-gather.run'.used c.contents_of.ensures c.deref.ensures.value))
    (gathered_some c.in-Some.front.tag.now c.all_bytes-bytes.result.now (8589934592 - c.args.self.now.whole) c.in-Ok-gather.run'.bytes
    c.in-Ok-gather.run'.lines _
    c.in-Ok-gather.ensures.gathered c.if-run-eq0.false)

-- all bytes are those of the line that went on and of the piece
of_both : {t all part other contents : List ℕ} {most n count : ℕ} (piece : List ℕ) → all ≡ other ++ piece → other ≡ part
    → HasGathered t all most n count contents → HasGathered t (part ++ piece) most n count contents
of_both {t} {contents = contents} {most} {n} {count} piece e same g =
    subst (λ b. HasGathered t b most n count contents) (e ∙ ap (λ p. p ++ piece) same) g

pub overflow_sub-taken : goal.overflow_sub-taken
overflow_sub-taken c =
    let r = c.requires in
    let beyond = run_beyond r.formula c.args.self.now r.bytes r.written c.args.piece.now r.is c.in-Some.front.tag.now c.in-Some.ensures.0
    c.in-Ok-gather.run'.bytes c.in-Ok-gather.run'.lines _ (of_both c.args.piece.now c.all_bytes-bytes.ensures c.bytes-2.ensures c.in-Ok-gather.ensures.gathered)
    c.if-run-eq0.false in
    omega (arith, beyond, ap length c.bytes-3.ensures)

pub returns-in_err-hand_run-clause-taken : goal.returns-in_err-hand_run-clause-taken
returns-in_err-hand_run-clause-taken c =
    let q = err_from_is_err_and c.from_residual.result c.from_residual.ensures.1 in
    let i = c.args.self.now in
    rw (q.1, q.2) (λ f bytes written k.
    let past : Past = record { formula = f; seen = k.taken.tagged } in
    run_stopped f i bytes written c.args.piece.now k c.in-Some.front.tag.now c.in-Some.ensures.0 c.in-Ok-gather.run'.bytes c.in-Ok-gather.run'.lines _
    (of_both c.args.piece.now c.all_bytes-bytes.ensures c.bytes-2.ensures c.in-Ok-gather.ensures.gathered) c.if-run-eq0.false c.hand_run.new.text
    c.in_err-hand_run.field-0.0
    (λ content ends. c.in_err-hand_run.ensures past content k.taken.stands
    (contents_are (option_copied c.in-Ok-gather.run'.lone) c.in-Ok-gather.run'.used c.contents_of.ensures c.deref.ensures.value ∙ ends)))

pub returns-clause-taken : goal.returns-clause-taken
returns-clause-taken c = λ f bytes written k.
    let i = c.args.self.now in
    let past : Past = record { formula = f; seen = k.taken.tagged } in
    let new : Input = record {
      mux = c.hand_run.new.mux;
      part = c.clear.new.self;
      run = c.gather.new.room;
      whole = i.whole + c.in-Ok-gather.run'.lines;
      text = c.hand_run.new.text;
      joined = c.join.new.room;
    } in
    subst (λ (p : List ℕ). IsTaking f new (bytes ++ take (c.in-Ok-gather.run'.bytes - length p) c.args.piece.now) written) (sym c.bytes-3.ensures)
    (run_done f i bytes written c.args.piece.now k c.in-Some.front.tag.now c.in-Some.ensures.0 c.in-Ok-gather.run'.bytes c.in-Ok-gather.run'.lines _
    (of_both c.args.piece.now c.all_bytes-bytes.ensures c.bytes-2.ensures c.in-Ok-gather.ensures.gathered) c.if-run-eq0.false new c.clear.ensures refl
    (λ content ends. c.in_ok-hand_run.ensures past content k.taken.stands
    (contents_are (option_copied c.in-Ok-gather.run'.lone) c.in-Ok-gather.run'.used c.contents_of.ensures c.deref.ensures.value ∙ ends)))
