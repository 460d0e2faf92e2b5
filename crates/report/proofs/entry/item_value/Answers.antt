use Rattle.std.proofs.Common.{ap, ◌∙◌, codes}
use Rattle.serde_json.specs.Data.{string, boolean, object, member, no_members}
use Rattle.serde_json.specs.View.{view}
use Rattle.report.proofs.entry.item_value.Goals as goal

pub returns : goal.returns
returns c =
    let (on, is_on, o) = c.in_ok-on.ensures in
    let own = c.requires.atom in
    let holds = c.args.item.now.holds in (
      own.0,
      own.1,
      (
        c.in_ok-name.name,
        on,
        c.in_ok-name.ensures own.0 own.1,
        is_on,
        c.in_ok-item_object.ensures
            ∙ ap (λ d. object (member (codes "atom") d (member (codes "on") (view c.in_ok-on.on) (member (codes "value") (boolean holds) no_members))))
            (c.in_ok-atom.ensures ∙ ap string c.bytes.ensures)
            ∙ ap (λ d. object (member (codes "atom") (string c.in_ok-name.name) (member (codes "on") d (member (codes "value") (boolean holds) no_members)))) o,
      ),
    )
