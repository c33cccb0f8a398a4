-- The laws of how an input ends.
use Rattle.std.proofs.Common.{◌≡◌, ℕ, suc, ◌+◌, ◌-◌, ◌<◌, ◌≤◌, ◌⊎◌, List, [], ◌∷◌, ◌++◌, map, length, get_or, take, Some, None, Ok, Err, Option, Result, sym, refl, ap, ◌∙◌, subst, inl, inr, append-nil, arith, length-take}
use Rattle.std.specs.List.{AllByRecursion}
use Rattle.std.proofs.lemmas.List.{take_more, take_all}
use Rattle.entries.specs.declared.entry.Entry.{Entry}
use Rattle.lines.specs.declared.column.Column.{Column}
use Rattle.lines.specs.declared.misread.Misread.{Misread}
use Rattle.lines.specs.Misreads.{misread_number, misread_column}
use Rattle.lines.specs.Text.{heading_in}
use Rattle.lines.specs.Names.{columns_in}
use Rattle.lines.specs.Values.{pair_in}
use Rattle.lines.specs.Entries.{spelt}
use Rattle.statements.specs.declared.statement.Statement.{Statement}
use Rattle.book.specs.Sheet.{Sheet, Call, begin, post, Outcome, accepted, refused, drafted, first_failing, checks, reply, answered, outcome, after, statement}
use Rattle.book.specs.Runs.{outcomes, final}
use Rattle.files.specs.Endings.{Ending, stated, refused_at, lacking_line, read_then, answered_then, call_then, rows_end, names_end, begin_end, lines_end}
use Rattle.files.specs.Laws.{posts_of, calls_of, Accepted, MisreadAs, RefusedAs, CauseAt, StopsAt, EndsLawfully}
use Rattle.files.specs.Stops.{at_line}
use Rattle.files.proofs.Ends.{read_goes_on}

-- an ending is not both a statement and a refusal
not_both : {A : Type 0} (d : Statement) (n k : ℕ) (vs : List ℕ) → refused_at n k vs ≡ stated d → A
not_both d n k vs h = let z : ◌≡◌ {A = ℕ} 0 1 = cc in absurd (omega arith)

-- where the input ends with a statement, the line was read
read_stated : {A : Type 0} (n : ℕ) (next : A → Ending) (d : Statement) (r : Result A Misread) → read_then n r next ≡ stated d → (x : A) × (r ≡ Ok x) × (next x ≡ stated d)
read_stated n next d (Ok x) h = (x, refl, h)
read_stated n next d (Err e) h = not_both d n (misread_number e) (misread_column e ∷ []) h

-- and its call, to which a statement is no answer, was accepted
answered_stated : (n : ℕ) (end : Ending) (d : Statement) (o : Outcome) (r : Option (ℕ × List ℕ)) → o ≡ accepted → answered_then n (answered r o) end ≡ stated d → (answered r o ≡ accepted) × (end ≡ stated d)
answered_stated n end d o None is h = (is, sym (ap (λ a. answered_then n a end) is) ∙ h)
answered_stated n end d o (Some x) is h = not_both d n x.0 x.1 h

call_stated : (n : ℕ) (next : Sheet → Ending) (d : Statement) (s : Sheet) (c : Call) → reply s c ≡ accepted → call_then n s c next ≡ stated d → (outcome s c ≡ accepted) × (next (after s c) ≡ stated d)
unfolding outcome
call_stated n next d s c is h = answered_stated n (next (after s c)) d (reply s c) (first_failing (checks s c)) is h

-- an accepted call goes on
call_on : (n : ℕ) (next : Sheet → Ending) (s : Sheet) (c : Call) → outcome s c ≡ accepted → call_then n s c next ≡ next (after s c)
call_on n next s c is = ap (λ o. answered_then n o (next (after s c))) is

-- every line of values is accepted, and d is the statement over them
record Entered (ns : List Column) (s : Sheet) (ls : List (List ℕ)) (d : Statement) : Type 0 where
  entries : List (ℕ × Entry)
  spells : map (spelt ns) ls ≡ map Ok entries
  accepts : AllByRecursion (λ o. o ≡ accepted) (outcomes s (posts_of entries))
  states : d ≡ statement (final s (posts_of entries))

-- where lines of values end with a statement, they are accepted, and the other way round
rows_stated : (ns : List Column) (s : Sheet) (n : ℕ) (ls : List (List ℕ)) (d : Statement) → rows_end ns s n ls ≡ stated d → Entered ns s ls d
unfolding rows_end outcomes final
rows_stated ns s n [] d h = record { entries = []; spells = refl; accepts = tt; states = cc }
rows_stated ns s n (l ∷ ls) d h =
    let next : ℕ × Entry → Sheet → Ending = λ row t. rows_end ns t (n + 1) ls in
    let read = read_stated (n + 1) (λ row. call_then (n + 1) s (post row.0 row.1) (next row)) d (spelt ns l) h in
    let row = read.0 in
    let call : Call = post row.0 row.1 in
    let went = call_stated (n + 1) (next row) d s call refl read.2 in
    let rest = rows_stated ns (after s call) (n + 1) ls d went.1 in
    record {
      entries = row ∷ rest.entries;
      spells = ap (λ r. r ∷ map (spelt ns) ls) read.1 ∙ ap (λ rs. Ok row ∷ rs) rest.spells;
      accepts = (went.0, rest.accepts);
      states = rest.states;
    }

rows_accepted : (ns : List Column) (s : Sheet) (n : ℕ) (ls : List (List ℕ)) (es : List (ℕ × Entry)) → map (spelt ns) ls ≡ map Ok es → AllByRecursion (λ o. o ≡ accepted) (outcomes s (posts_of es))
    → (more : List (List ℕ)) → rows_end ns s n (ls ++ more) ≡ rows_end ns (final s (posts_of es)) (n + length ls) more
unfolding rows_end outcomes final
rows_accepted ns s n [] [] h a more = let same : n ≡ n + 0 = omega arith in ap (λ m. rows_end ns s m more) same
rows_accepted ns s n [] (e ∷ es) h a more = let z : ◌≡◌ {A = ℕ} 0 1 = cc in absurd (omega arith)
rows_accepted ns s n (l ∷ ls) [] h a more = let z : ◌≡◌ {A = ℕ} 0 1 = cc in absurd (omega arith)
rows_accepted ns s n (l ∷ ls) (e ∷ es) h a more =
    let next : Sheet → Ending = λ t. rows_end ns t (n + 1) (ls ++ more) in
    let call : Call = post e.0 e.1 in
    let reads : spelt ns l ≡ Ok e = cc in
    let others : map (spelt ns) ls ≡ map Ok es = cc in
    let far : n + 1 + length ls ≡ n + suc (length ls) = omega arith in
    read_goes_on (n + 1) (λ row. call_then (n + 1) s (post row.0 row.1) next) (spelt ns l) e (ap (at_line (n + 1)) reads) ∙ call_on (n + 1) next s call a.0
    ∙ rows_accepted ns (after s call) (n + 1) ls es others a.1 more ∙ ap (λ m. rows_end ns (final (after s call) (posts_of es)) m more) far

-- where the input ends with a statement from a line on, every line is accepted
module _ (s : Sheet) (d : Statement) (heading : List ℕ) (headed : heading_in heading ≡ Ok tt) where
  names_stated : (pair : List ℕ) (year : ℕ × ℕ) → pair_in pair ≡ Ok year → outcome s (begin year.0 year.1) ≡ accepted → (ls : List (List ℕ))
      → names_end (after s (begin year.0 year.1)) ls ≡ stated d → Accepted s (heading ∷ (pair ∷ ls)) d
  unfolding names_end outcomes final
  names_stated pair year begins took [] h = not_both d 3 14 (1 ∷ []) h
  names_stated pair year begins took (names ∷ rows) h =
      let t : Sheet = after s (begin year.0 year.1) in
      let read = read_stated 3 (λ ns. rows_end ns t 3 rows) d (columns_in names) h in
      let rest = rows_stated read.0 t 3 rows d read.2 in
      record {
        heading = heading;
        pair = pair;
        names = names;
        rows = rows;
        split = refl;
        headed = headed;
        year = year;
        begins = begins;
        columns = read.0;
        named = read.1;
        entries = rest.entries;
        spells = rest.spells;
        accepts = (took, rest.accepts);
        states = rest.states;
      }

  begin_stated : (ls : List (List ℕ)) → begin_end s ls ≡ stated d → Accepted s (heading ∷ ls) d
  unfolding begin_end
  begin_stated [] h = not_both d 2 14 (1 ∷ []) h
  begin_stated (pair ∷ ls) h =
      let next : Sheet → Ending = λ t. names_end t ls in
      let read = read_stated 2 (λ p. call_then 2 s (begin p.0 p.1) next) d (pair_in pair) h in
      let went = call_stated 2 next d s (begin read.0.0 read.0.1) refl read.2 in
      names_stated pair read.0 read.1 went.0 ls went.1

stated_accepted : (s : Sheet) (ls : List (List ℕ)) (d : Statement) → lines_end s ls ≡ stated d → Accepted s ls d
unfolding lines_end
stated_accepted s [] d h = not_both d 1 14 (1 ∷ []) h
stated_accepted s (heading ∷ ls) d h =
    let read = read_stated 1 (λ _. begin_end s ls) d (heading_in heading) h in
    begin_stated s d heading read.1 ls read.2

-- and where every line is accepted, it goes on from the sheet after them
accepted_on : (s : Sheet) (ls : List (List ℕ)) (d : Statement) (a : Accepted s ls d) (more : List (List ℕ))
    → lines_end s (ls ++ more) ≡ rows_end a.columns (final s (calls_of a.year a.entries)) (3 + length a.rows) more
unfolding lines_end begin_end names_end outcomes final
accepted_on s ls d a more =
    let call : Call = begin a.year.0 a.year.1 in
    let rows : List (List ℕ) = a.rows ++ more in
    let named : Sheet → Ending = λ t. names_end t (a.names ∷ rows) in
    ap (λ xs. lines_end s (xs ++ more)) a.split ∙ read_goes_on 1 (λ _. begin_end s (a.pair ∷ (a.names ∷ rows))) (heading_in a.heading) tt (ap (at_line 1) a.headed)
    ∙ read_goes_on 2 (λ p. call_then 2 s (begin p.0 p.1) named) (pair_in a.pair) a.year (ap (at_line 2) a.begins) ∙ call_on 2 named s call a.accepts.0
    ∙ read_goes_on 3 (λ ns. rows_end ns (after s call) 3 rows) (columns_in a.names) a.columns (ap (at_line 3) a.named)
    ∙ rows_accepted a.columns (after s call) 3 a.rows a.entries a.spells a.accepts.1 more

-- or ends with the statement
accepted_stated : (s : Sheet) (ls : List (List ℕ)) (d : Statement) → Accepted s ls d → lines_end s ls ≡ stated d
unfolding rows_end
accepted_stated s ls d a = ap (lines_end s) (sym (append-nil ls)) ∙ accepted_on s ls d a [] ∙ ap stated (sym a.states)

-- a statement comes just where every line is accepted
pub stated_where_accepted : (s : Sheet) (ls : List (List ℕ)) (d : Statement) → (lines_end s ls ≡ stated d → Accepted s ls d) × (Accepted s ls d → lines_end s ls ≡ stated d)
stated_where_accepted s ls d = (stated_accepted s ls d, accepted_stated s ls d)

-- lines that f tells the ending of, before line n of the input: they alone end with a statement, or lack line n of the first three
abbrev Before : (List (List ℕ) → Ending) → ℕ → List (List ℕ) → Type 0
Before f n ls = (3 < n → (d : Statement) × (f ls ≡ stated d)) × (n ≤ 3 → f ls ≡ lacking_line n)

-- lines ls that come after b lines are refused at line n, which has a place among them
record Stopped (f : List (List ℕ) → Ending) (b : ℕ) (ls : List (List ℕ)) (n k : ℕ) (vs : List ℕ) : Type 0 where
  place : ℕ
  number : n ≡ b + suc place
  line : (place < length ls) ⊎ ((place ≡ length ls) × (n ≤ 3))
  later : place < length ls → (more : List (List ℕ)) → f (take (suc place) ls ++ more) ≡ refused_at n k vs
  earlier : Before f n (take place ls)

-- where they end with a refusal, they are refused so
abbrev Stopping : (List (List ℕ) → Ending) → ℕ → List (List ℕ) → Type 0
Stopping f b ls = (n k : ℕ) (vs : List ℕ) → f ls ≡ refused_at n k vs → Stopped f b ls n k vs

-- the first line l of them ends the input, or it goes on as g tells of the others ls
data Step (f : List (List ℕ) → Ending) (b : ℕ) (l : List ℕ) (ls : List (List ℕ)) : Type 0 where
  ends : (k : ℕ) (vs : List ℕ) → ((xs : List (List ℕ)) → f (l ∷ xs) ≡ refused_at (b + 1) k vs) → Step f b l ls
  goes : (g : List (List ℕ) → Ending) → ((xs : List (List ℕ)) → f (l ∷ xs) ≡ g xs) → Stopping g (b + 1) ls → Step f b l ls

-- and so the lines with l are refused so
step_stops : (f : List (List ℕ) → Ending) (b : ℕ) (l : List ℕ) (ls : List (List ℕ)) → Before f (b + 1) [] → Step f b l ls → Stopping f b (l ∷ ls)
step_stops f b l ls none (ends k' vs' e) n k vs h =
    let same : refused_at (b + 1) k' vs' ≡ refused_at n k vs = sym (e ls) ∙ h in
    let number : b + 1 ≡ n = cc in
    record {
      place = 0;
      number = omega arith;
      line = inl (omega arith);
      later = λ _ more. e more ∙ same;
      earlier = subst (λ m. Before f m []) number none;
    }
step_stops f b l ls none (goes g e stops) n k vs h =
    let s = stops n k vs (sym (e ls) ∙ h) in
    record {
      place = suc s.place;
      number = omega arith;
      line = elim s.line [ inl in_lines ↦ inl (omega arith) | inr past ↦ inr (omega arith, past.1) ];
      later = λ h more. e (take (suc s.place) ls ++ more) ∙ s.later (omega arith) more;
      earlier = ((λ m. let was = s.earlier.0 m in (was.0, e (take s.place ls) ∙ was.1)), λ m. e (take s.place ls) ∙ s.earlier.1 m);
    }

-- the two parts of a step: what is read of the line, and the answer to its call
module _ (f : List (List ℕ) → Ending) (b : ℕ) (l : List ℕ) (ls : List (List ℕ)) where
  read_step : {A : Type 0} (next : A → List (List ℕ) → Ending) (r : Result A Misread) → ((xs : List (List ℕ)) → f (l ∷ xs) ≡ read_then (b + 1) r (λ x. next x xs))
      → ((x : A) → ((xs : List (List ℕ)) → f (l ∷ xs) ≡ next x xs) → Step f b l ls) → Step f b l ls
  read_step next (Ok x) e h = h x e
  read_step next (Err m) e h = ends (misread_number m) (misread_column m ∷ []) e

  call_step : (g : List (List ℕ) → Ending) (o : Outcome) → ((xs : List (List ℕ)) → f (l ∷ xs) ≡ answered_then (b + 1) o (g xs)) → Stopping g (b + 1) ls → Step f b l ls
  call_step g accepted e h = goes g e h
  call_step g (refused k vs) e h = ends k vs e
  call_step g (drafted d) e h = goes g e h

-- one of the first three lines that is lacking
lack_stops : (f : List (List ℕ) → Ending) (b : ℕ) → b < 3 → f [] ≡ lacking_line (b + 1) → Stopping f b []
lack_stops f b few e n k vs h =
    let same : lacking_line (b + 1) ≡ refused_at n k vs = sym e ∙ h in
    let number : b + 1 ≡ n = cc in
    record {
      place = 0;
      number = omega arith;
      line = inr (refl, omega arith);
      later = λ none. absurd (omega arith);
      earlier = ((λ far. absurd (omega arith)), λ _. e ∙ ap lacking_line number);
    }

-- the lines of values, the names, the begin and the heading
rows_stop : (ns : List Column) (s : Sheet) (b : ℕ) (ls : List (List ℕ)) → 3 ≤ b → Stopping (rows_end ns s b) b ls
unfolding rows_end
rows_stop ns s b [] far = λ n k vs h. not_both (statement s) n k vs (sym h)
rows_stop ns s b (l ∷ ls) far =
    let next : ℕ × Entry → List (List ℕ) → Ending = λ row xs. call_then (b + 1) s (post row.0 row.1) (λ t. rows_end ns t (b + 1) xs) in
    step_stops (rows_end ns s b) b l ls ((λ _. (statement s, refl)), λ near. absurd (omega arith))
    (read_step (rows_end ns s b) b l ls next (spelt ns l) (λ _. refl)
    (λ row e. let call : Call = post row.0 row.1 in
    call_step (rows_end ns s b) b l ls (rows_end ns (after s call) (b + 1)) (outcome s call) e (rows_stop ns (after s call) (b + 1) ls (omega arith))))

names_stop : (s : Sheet) (ls : List (List ℕ)) → Stopping (names_end s) 2 ls
unfolding names_end
names_stop s [] = lack_stops (names_end s) 2 (omega arith) refl
names_stop s (l ∷ ls) =
    step_stops (names_end s) 2 l ls ((λ far. absurd (omega arith)), λ _. refl)
    (read_step (names_end s) 2 l ls (λ ns. rows_end ns s 3) (columns_in l) (λ _. refl) (λ ns e. goes (rows_end ns s 3) e (rows_stop ns s 3 ls (omega arith))))

begin_stop : (s : Sheet) (ls : List (List ℕ)) → Stopping (begin_end s) 1 ls
unfolding begin_end
begin_stop s [] = lack_stops (begin_end s) 1 (omega arith) refl
begin_stop s (l ∷ ls) =
    step_stops (begin_end s) 1 l ls ((λ far. absurd (omega arith)), λ _. refl)
    (read_step (begin_end s) 1 l ls (λ p xs. call_then 2 s (begin p.0 p.1) (λ t. names_end t xs)) (pair_in l) (λ _. refl)
    (λ p e. let call : Call = begin p.0 p.1 in
    call_step (begin_end s) 1 l ls (names_end (after s call)) (outcome s call) e (names_stop (after s call) ls)))

lines_stop : (s : Sheet) (ls : List (List ℕ)) → Stopping (lines_end s) 0 ls
unfolding lines_end
lines_stop s [] = lack_stops (lines_end s) 0 (omega arith) refl
lines_stop s (l ∷ ls) =
    step_stops (lines_end s) 0 l ls ((λ far. absurd (omega arith)), λ _. refl)
    (read_step (lines_end s) 0 l ls (λ _. begin_end s) (heading_in l) (λ _. refl) (λ _ e. goes (begin_end s) e (begin_stop s ls)))

-- an input that is refused at line n, from line m on
module _ (m n k : ℕ) (vs : List ℕ) where
  -- if m is another line, it was read, and its call did not end the input
  was_read : {A : Type 0} (next : A → Ending) (r : Result A Misread) → (m ≡ n → ⊥) → read_then m r next ≡ refused_at n k vs → (x : A) × (next x ≡ refused_at n k vs)
  was_read next (Ok x) other h = (x, h)
  was_read next (Err e) other h = absurd (other (cc))

  was_answered : (end : Ending) (o : Outcome) → (m ≡ n → ⊥) → answered_then m o end ≡ refused_at n k vs → end ≡ refused_at n k vs
  was_answered end accepted other h = h
  was_answered end (refused k' vs') other h = absurd (other (cc))
  was_answered end (drafted d) other h = h

  -- if what comes after m is not refused so, m is misread, or its call is refused
  misread_there : {A : Type 0} (next : A → Ending) (r : Result A Misread) → ((x : A) → next x ≡ refused_at n k vs → ⊥) → read_then m r next ≡ refused_at n k vs → MisreadAs r k vs
  misread_there next (Ok x) later h = absurd (later x h)
  misread_there next (Err e) later h = (e, refl, (cc), (cc))

  refused_there : (end : Ending) (o : Outcome) → (end ≡ refused_at n k vs → ⊥) → answered_then m o end ≡ refused_at n k vs → o ≡ refused k vs
  refused_there end accepted later h = absurd (later h)
  refused_there end (refused k' vs') later h = cc
  refused_there end (drafted d) later h = absurd (later h)

  stopped_there : {A : Type 0} (s : Sheet) (call : A → Call) (next : Sheet → Ending) (r : Result A Misread) → ((t : Sheet) → next t ≡ refused_at n k vs → ⊥)
      → read_then m r (λ x. call_then m s (call x) next) ≡ refused_at n k vs → MisreadAs r k vs ⊎ RefusedAs s call r k vs
  stopped_there s call next (Ok x) later h = inr (x, refl, refused_there (next (after s (call x))) (outcome s (call x)) (later (after s (call x))) h)
  stopped_there s call next (Err e) later h = inl (e, refl, (cc), (cc))

-- an input is not refused at two lines
not_two : {m n k k' : ℕ} {vs vs' : List ℕ} → (m ≡ n → ⊥) → refused_at m k vs ≡ refused_at n k' vs' → ⊥
not_two other h = other (cc)

-- why the line after these is refused
cause_of : (s : Sheet) (before : List (List ℕ)) (l : List ℕ) (n k : ℕ) (vs : List ℕ) → n ≡ length before + 1 → (3 < n → (d : Statement) × (lines_end s before ≡ stated d))
    → lines_end s (before ++ (l ∷ [])) ≡ refused_at n k vs → CauseAt s before l k vs
unfolding lines_end begin_end names_end rows_end
cause_of s [] l n k vs is far h = misread_there 1 n k vs (λ _. begin_end s []) (heading_in l) (λ _. not_two (λ e. omega arith)) h
cause_of s (heading ∷ []) l n k vs is far h =
    let headed = was_read 1 n k vs (λ _. begin_end s (l ∷ [])) (heading_in heading) (λ e. omega arith) h in
    stopped_there 2 n k vs s (λ p. begin p.0 p.1) (λ t. names_end t []) (pair_in l) (λ _. not_two (λ e. omega arith)) headed.1
cause_of s (heading ∷ (pair ∷ [])) l n k vs is far h =
    let named : Sheet → Ending = λ t. names_end t (l ∷ []) in
    let headed = was_read 1 n k vs (λ _. begin_end s (pair ∷ (l ∷ []))) (heading_in heading) (λ e. omega arith) h in
    let read = was_read 2 n k vs (λ p. call_then 2 s (begin p.0 p.1) named) (pair_in pair) (λ e. omega arith) headed.1 in
    let call : Call = begin read.0.0 read.0.1 in
    let began = was_answered 2 n k vs (named (after s call)) (outcome s call) (λ e. omega arith) read.1 in
    misread_there 3 n k vs (λ ns. rows_end ns (after s call) 3 []) (columns_in l) (λ ns e. not_both (statement (after s call)) n k vs (sym e)) began
cause_of s (heading ∷ (pair ∷ (names ∷ rows))) l n k vs is far h =
    let ls : List (List ℕ) = heading ∷ (pair ∷ (names ∷ rows)) in
    let was = far (omega arith) in
    let a : Accepted s ls was.0 = stated_accepted s ls was.0 was.1 in
    let b : ℕ = 3 + length a.rows in (
      was.0,
      a,
      stopped_there (b + 1) n k vs (final s (calls_of a.year a.entries)) (λ row. post row.0 row.1) (λ t. rows_end a.columns t (b + 1) []) (spelt a.columns l)
          (λ t e. not_both (statement t) n k vs (sym e)) (sym (accepted_on s ls was.0 a (l ∷ [])) ∙ h),
    )

-- the first n lines, by the last of them
take_line : (n : ℕ) (ls : List (List ℕ)) → 0 < n → n ≤ length ls → take n ls ++ [] ≡ take (n - 1) ls ++ (get_or ls (n - 1) [] ∷ [])
take_line n ls some in_lines =
    let is : n ≡ n - 1 + 1 = omega arith in
    append-nil (take n ls) ∙ ap (λ m. take m ls) is ∙ take_more ls (n - 1) [] (omega arith)

-- the first refusal ends an input
pub refused_stops : (s : Sheet) (ls : List (List ℕ)) (n k : ℕ) (vs : List ℕ) → lines_end s ls ≡ refused_at n k vs → StopsAt s ls n k vs
refused_stops s ls n k vs h =
    let stop = lines_stop s ls n k vs h in
    let is : suc stop.place ≡ n = omega arith in
    let before : stop.place ≡ n - 1 = omega arith in
    let later : n ≤ length ls → (more : List (List ℕ)) → lines_end s (take n ls ++ more) ≡ refused_at n k vs =
    λ in_lines more. subst (λ m. lines_end s (take m ls ++ more) ≡ refused_at n k vs) is (stop.later (omega arith) more) in
    let earlier : Before (lines_end s) n (take (n - 1) ls) = subst (λ i. Before (lines_end s) n (take i ls)) before stop.earlier in
    record {
      line = (omega arith, elim stop.line [ inl in_lines ↦ inl (omega arith) | inr past ↦ inr (omega arith, past.1) ]);
      later = later;
      earlier = earlier;
      cause = (
        λ in_lines. cause_of s (take (n - 1) ls) (get_or ls (n - 1) []) n k vs (simp length-take (omega arith)) earlier.0 (ap (lines_end s) (sym (take_line n ls (omega arith) in_lines)) ∙ later in_lines []),
        λ past.
            let few : n ≤ 3 = elim stop.line [ inl in_lines ↦ absurd (omega arith) | inr p ↦ p.1 ] in
            let same : lacking_line n ≡ refused_at n k vs = sym (earlier.1 few) ∙ ap (lines_end s) (take_all (n - 1) ls (omega arith)) ∙ h in
            ((cc), (cc)),
      );
    }

-- every input ends lawfully
pub ends_lawfully : (s : Sheet) (ls : List (List ℕ)) → EndsLawfully s ls (lines_end s ls)
ends_lawfully s ls = by (lines_end s ls) refl
  where
    by : (end : Ending) → lines_end s ls ≡ end → EndsLawfully s ls end
    by (stated d) h = stated_accepted s ls d h
    by (refused_at n k vs) h = refused_stops s ls n k vs h
