-- A number without decimals, or with them.
use Rattle.std.proofs.Common.{◌-◌, sym, ◌∙◌, length, take, drop, List, ℕ}
use Rattle.rational.proofs.Lists.{take_rest}
use Rattle.stl_grammar.proofs.LexerLemmas.{kept_digits, whole_lexeme_of, decimal_lexeme_of}
use Rattle.stl_grammar.proofs.lexer.number_lexeme.Goals as goal

pub returns-then-not-begins_decimals : goal.returns-then-not-begins_decimals
returns-then-not-begins_decimals c =
    λ text. let w = c.digits_len-whole in
    whole_lexeme_of text c.args.rest.now w.result c.value_after-value.result c.requires.some c.requires.first w.ensures.within
    w.ensures.front w.ensures.stops c.value_after-value.ensures
    _ (take_rest c.args.rest.now w.result) c.number.result (sym c.begins_decimals.ensures ∙ c.if-not-begins_decimals.true) c.number.ensures

pub value_after-requires : goal.value_after-requires
value_after-requires c = record { digits = kept_digits _ c.kept_decimals-kept.result c.digits_len-len.ensures.front c.kept_decimals-kept.ensures.kept }

pub returns : goal.returns
returns c =
    λ text. let w = c.digits_len-whole in
    let others : List ℕ = take (length c.args.rest.now - w.result) (drop w.result c.args.rest.now) in
    decimal_lexeme_of text c.args.rest.now w.result c.value_after-value.result c.requires.some c.requires.first w.ensures.within
    w.ensures.front w.ensures.stops c.value_after-value.ensures
    others (take_rest c.args.rest.now w.result) (take_rest others 1) c.digits_len-len.result c.kept_decimals-kept.result c.value_after.result c.number-2.result
    (sym c.begins_decimals.ensures ∙ c.if-not-begins_decimals.false)
    (record {
      within = c.digits_len-len.ensures.within;
      digits = c.digits_len-len.ensures.front;
      stops = c.digits_len-len.ensures.stops;
      few = c.kept_decimals-kept.ensures.within;
      kept = c.kept_decimals-kept.ensures.kept;
      value = c.value_after.ensures;
    })
    c.number-2.ensures
