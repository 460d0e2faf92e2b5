use Rattle.bounds.proofs.BooksRight.{books_are_right as law}
use Rattle.bounds.proofs.laws.books_are_right.Goals as goal

pub returns : goal.returns
returns c = law
