use Rattle.std.proofs.Common.{◌≡◌, ◌++◌, sym, ◌∙◌, ap, subst}
use Rattle.stl_syntax.specs.Print.{IsAtomText}
use Rattle.stl_syntax.specs.Printing.{atom_text}
use Rattle.stl_syntax.proofs.PrintedText.{atom_is}
use Rattle.stl_syntax.proofs.atom.Atom.print.Goals as goal

pub returns : goal.returns
returns c =
    let is : c.put_atom.new.text ≡ atom_text c.args.scale c.args.self.now =
    c.in_ok-put_atom.ensures ∙ ap (λ t. t ++ atom_text c.args.scale c.args.self.now) c.new-text.ensures in
    subst (IsAtomText c.args.scale c.args.self.now) (sym is) (atom_is c.args.scale c.args.self.now)
