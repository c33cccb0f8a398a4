use Rattle.std.proofs.Common.{rules}
use Rattle.book.specs.Books.{sheet_of}
use Rattle.book.specs.Sheet.{Sheet}
use Rattle.book.proofs.Keeping.{admitted_within, year_sums}
use Rattle.book.proofs.book.Book.exchange.Goals as goal

pub returns-in_err-sums : goal.returns-in_err-sums
returns-in_err-sums g c =
    let s : Sheet = sheet_of g.S.Store c.args.self.now in
    let below = admitted_within s c.args.quarter c.args.entry c.requires.admitted in
    let sums = year_sums g.S.Store c.self.view_is c.self.invariant in
    let year = c.in_err-sums.ensures.year s.pairs c.args.quarter sums below c.requires.stands in
    search rules

pub settle-requires-clause-sums : goal.settle-requires-clause-sums
settle-requires-clause-sums g c =
    let s : Sheet = sheet_of g.S.Store c.args.self.now in
    let below = admitted_within s c.args.quarter c.args.entry c.requires.admitted in
    let sums = year_sums g.S.Store c.self.view_is c.self.invariant in
    (c.in_ok-sums.ensures.year s.pairs c.args.quarter sums below c.requires.stands).1

pub returns : goal.returns
returns g c =
    let s : Sheet = sheet_of g.S.Store c.args.self.now in
    let below = admitted_within s c.args.quarter c.args.entry c.requires.admitted in
    let sums = year_sums g.S.Store c.self.view_is c.self.invariant in
    let year = c.in_ok-sums.ensures.year s.pairs c.args.quarter sums below c.requires.stands in
    search rules
