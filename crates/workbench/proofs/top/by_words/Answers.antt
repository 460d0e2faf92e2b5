use Rattle.std.proofs.Common.{map, refl, inl, inr, arith}
use Rattle.std.specs.Prelude.{string_bytes}
use Rattle.answer_lines.specs.Lines.{line_text}
use Rattle.command_line.specs.Words.{verb_of}
use Rattle.workbench.proofs.LeftByRun.{none_left, made_left, refused_left}
use Rattle.workbench.proofs.RunEnds.{none_of_both, none_run, made_run, refused_run}
use Rattle.workbench.proofs.top.by_words.Goals as goal

pub returns-in-Some-clause-ran : goal.returns-in-Some-clause-ran
returns-in-Some-clause-ran g c =
    let number = c.in-Some.workload.number in
    let rows = c.in-Some.workload.rows in
    let form = c.in-Some.ensures.0 in
    let made = c.generate.ensures.made in
    made_left number rows _ _ form refl (made_run number rows _ _ _ c.generate.result made.0 form made.1 refl made.2)

pub returns-in-Some-clause-untouched : goal.returns-in-Some-clause-untouched
returns-in-Some-clause-untouched g c = record {
  unread = λ _. refl;
  nothing = λ some other _. c.generate.ensures.nothing some other;
  unkept = λ _. refl;
}

pub returns-in-Some-clause-calm : goal.returns-in-Some-clause-calm
returns-in-Some-clause-calm g c = record {
  read_due = λ _. refl;
  write_due = c.generate.ensures.write_due;
  quiet = c.generate.ensures.quiet;
  input_later = omega arith;
  out_later = c.generate.ensures.out_later;
  err_later = c.generate.ensures.err_later;
}

pub returns-in_default-asked-clause-ran : goal.returns-in_default-asked-clause-ran
returns-in_default-asked-clause-ran g c =
    let none = none_of_both c.in_default-asked.ensures c.in_default.ensures in
    none_left _ _ none refl (none_run _ _ _ (line_text c.no_form_line.result) c.no_form_line.ensures none refl refl c.say.ensures.said)

pub returns-in_default-asked-clause-untouched : goal.returns-in_default-asked-clause-untouched
returns-in_default-asked-clause-untouched g c = record { unread = λ _. refl; nothing = λ _ _ _. refl; unkept = λ _. refl }

pub returns-in_default-asked-clause-calm : goal.returns-in_default-asked-clause-calm
returns-in_default-asked-clause-calm g c = record {
  read_due = λ _. refl;
  write_due = λ _. refl;
  quiet = λ s. absurd (omega (arith, s));
  input_later = omega arith;
  out_later = omega arith;
  err_later = c.say.ensures.later;
}

pub returns-in-Ok-clause-ran : goal.returns-in-Ok-clause-ran
returns-in-Ok-clause-ran g c =
    c.by_mode.ensures.ran (map string_bytes c.args.words.now) c.in-Some-asked.asked.text.now c.in-Some-asked.ensures c.in-Ok.ensures.ok

pub returns-in-Ok-clause-untouched : goal.returns-in-Ok-clause-untouched
returns-in-Ok-clause-untouched g c =
    c.by_mode.ensures.untouched (map string_bytes c.args.words.now) c.in-Some-asked.asked.text.now c.in-Some-asked.ensures c.in_default.ensures

pub returns-in-Ok-clause-calm : goal.returns-in-Ok-clause-calm
returns-in-Ok-clause-calm g c = c.by_mode.ensures.calm

pub returns-in-Err-clause-ran : goal.returns-in-Err-clause-ran
returns-in-Err-clause-ran g c =
    let reason = c.refuse.ensures.ended c.in-Some-asked.asked.text.now c.in-Err.ensures.fault in
    refused_left (verb_of c.in-Some-asked.asked.mode) _ _ c.refuse.result c.in-Some-asked.ensures reason.1 refl
    (refused_run (verb_of c.in-Some-asked.asked.mode) _ _ _ c.refuse.result reason.0 c.in-Some-asked.ensures reason.1 refl refl reason.2)

pub returns-in-Err-clause-untouched : goal.returns-in-Err-clause-untouched
returns-in-Err-clause-untouched g c = record { unread = λ _. refl; nothing = λ _ _ _. refl; unkept = λ _. refl }

pub returns-in-Err-clause-calm : goal.returns-in-Err-clause-calm
returns-in-Err-clause-calm g c = record {
  read_due = λ _. refl;
  write_due = λ _. refl;
  quiet = λ s. elim c.refuse.ensures.few [
    | inl three ↦ absurd (omega (arith, s, three))
    | inr seven ↦ absurd (omega (arith, s, seven))
  ];
  input_later = omega arith;
  out_later = omega arith;
  err_later = c.refuse.ensures.later;
}
