use Rattle.entries.specs.declared.case.Case.TheVariants.{Storage}
use Rattle.book.proofs.Runs.{law_of_chain}
use Rattle.book.proofs.book.Book.new.Goals as goal

pub returns-clause-lawful : goal.returns-clause-lawful
returns-clause-lawful g c b' cs os h =
    law_of_chain g.S.Store _ _ h
    (λ i. record { reach = c.clear.ensures.reach i; capacity = c.clear.ensures.capacity i; case = Storage; year = 0; pairs = c.clear.ensures.pairs i })
