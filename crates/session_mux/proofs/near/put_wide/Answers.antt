use Rattle.answer_lines.proofs.TextsBehind.{add_as}
use Rattle.session_mux.proofs.NearLemmas.{loaded_front}
use Rattle.session_mux.proofs.near.put_wide.Goals as goal

pub returns : goal.returns
returns c =
    add_as (loaded_front c.args.text.now c.bytes_at.result c.bytes_at.ensures c.args.len c.requires.few c.requires.long) c.store.ensures
