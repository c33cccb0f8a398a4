-- Years worked by hand, with the figures that they must have.
use Rattle.std.specs.Prelude.{◌≡◌, ℕ, Bool, true, false, List, [], ◌∷◌, pos, negsuc, Some, None, vec_items, Option}
use Rattle.std.specs.List.{AllByRecursion}
use Rattle.entries.specs.declared.case.Case.{Case}
use Rattle.entries.specs.declared.case.Case.TheVariants.{Storage, ChargePoint, BothMetered}
use Rattle.entries.specs.declared.readings.Readings.{Readings}
use Rattle.figures.specs.declared.figures.Figures.{Figures}
use Rattle.sums.specs.Year.{totals}
use Rattle.figures.specs.Figures.{year_figures}
use Rattle.figures.specs.Laws.{ImportEven}
use Rattle.worked_years.specs.declared.years.Posting.{Posting}
use Rattle.worked_years.specs.declared.years.WorkedYear.{WorkedYear}
use Rattle.worked_years.specs.Postings.{posting, pairs_of}

-- a year of the list: its case and postings, the figures worked by hand, and whether its import adds up
pub record Listed : Type 0 where
  pub case : Case
  pub postings : List Posting
  pub figures : Figures
  pub import_even : Bool

-- import, feed-in, drawn and given
abbrev pub four : ℕ → ℕ → ℕ → ℕ → Readings
four a b c d = record { import = a; feed_in = b; drawn = c; given = d; storage_drawn = 0; storage_given = 0 }

-- no entry, no figures
abbrev pub no_entry : Listed
no_entry =
    record {
      case = Storage;
      postings = [];
      figures = record { nettable = 0; loss = pos 0; levied = 0; fund_direct = 0; fund_stored = 0; fund_all = 0; zero_direct = 0; zero_stored = 0; foreign = 0; loose = 0 };
      import_even = true;
    }

-- feed-in straight from the plant in a zero-time
abbrev pub direct_in_a_zero_time : Listed
direct_in_a_zero_time =
    record {
      case = Storage;
      postings = posting 0 (four 0 5000 0 0) 0 ∷ [];
      figures = record { nettable = 0; loss = pos 0; levied = 0; fund_direct = 0; fund_stored = 0; fund_all = 0; zero_direct = 5000; zero_stored = 0; foreign = 0; loose = 0 };
      import_even = true;
    }

-- power that only passed through the storage
abbrev pub grid_power_stored : Listed
grid_power_stored =
    record {
      case = Storage;
      postings = posting 0 (four 130000 0 100000 0) 700 ∷ (posting 1 (four 0 80000 0 100000) 700 ∷ []);
      figures = record { nettable = 80000; loss = pos 0; levied = 50000; fund_direct = 0; fund_stored = 0; fund_all = 0; zero_direct = 0; zero_stored = 0; foreign = 0; loose = 0 };
      import_even = true;
    }

-- power of the grid and of the plant in the storage, some of it lost, some fed in in a zero-time
abbrev pub grid_and_plant_stored : Listed
grid_and_plant_stored =
    record {
      case = Storage;
      postings = posting 0 (four 30000 0 50000 0) 700 ∷ (posting 1 (four 0 60000 0 40000) 700 ∷ (posting 2 (four 0 10000 0 5000) 0 ∷ []));
      figures = record { nettable = 27000; loss = pos 3000; levied = 0; fund_direct = 20000; fund_stored = 16000; fund_all = 36000; zero_direct = 5000; zero_stored = 2000; foreign = 0; loose = 0 };
      import_even = true;
    }

-- roundings that leave 1 Wh loose
abbrev pub one_loose : Listed
one_loose =
    record {
      case = Storage;
      postings = posting 0 (four 1 0 3 0) 700 ∷ (posting 1 (four 0 2 0 2) 700 ∷ []);
      figures = record { nettable = 0; loss = pos 0; levied = 1; fund_direct = 0; fund_stored = 1; fund_all = 1; zero_direct = 0; zero_stored = 0; foreign = 0; loose = 1 };
      import_even = true;
    }

-- roundings that leave 3 Wh loose, at a charge point
abbrev pub three_loose : Listed
three_loose =
    record {
      case = ChargePoint;
      postings = posting 0 (four 1 0 4 0) 700 ∷ (posting 1 (four 0 3 0 3) 700 ∷ (posting 2 (four 0 1 0 2) 0 ∷ []));
      figures = record { nettable = 0; loss = pos 0; levied = 1; fund_direct = 0; fund_stored = 1; fund_all = 1; zero_direct = 0; zero_stored = 0; foreign = 0; loose = 3 };
      import_even = true;
    }

-- a storage that began the year full: the loss is below zero
abbrev pub began_full : Listed
began_full =
    record {
      case = Storage;
      postings = posting 0 (four 100 0 100 0) 700 ∷ (posting 1 (four 0 0 0 150) 700 ∷ []);
      figures = record { nettable = 0; loss = negsuc 32; levied = 133; fund_direct = 0; fund_stored = 0; fund_all = 0; zero_direct = 0; zero_stored = 0; foreign = 0; loose = 0 };
      import_even = true;
    }

-- a storage with its own meter: more is nettable or lost than was imported, so the import does not add up
abbrev pub storage_metered_alone : Listed
storage_metered_alone =
    record {
      case = BothMetered;
      postings = posting 0 (record { import = 100; feed_in = 0; drawn = 100; given = 0; storage_drawn = 100; storage_given = 0 }) 700 ∷ (posting 1 (four 0 100 0 100) 700 ∷ []);
      figures = record { nettable = 100; loss = pos 100; levied = 0; fund_direct = 0; fund_stored = 0; fund_all = 0; zero_direct = 0; zero_stored = 0; foreign = 0; loose = 0 };
      import_even = false;
    }

-- the list
abbrev pub years : List Listed
years =
    no_entry ∷ (direct_in_a_zero_time ∷ (grid_power_stored ∷ (grid_and_plant_stored ∷ (one_loose ∷ (three_loose ∷ (began_full ∷ (storage_metered_alone ∷ [])))))))

-- the program's year is the listed one
abbrev pub IsListed : Option WorkedYear → Option Listed → Type 0
IsListed None None = Unit {0}
IsListed None (Some l) = ⊥
IsListed (Some y) None = ⊥
IsListed (Some y) (Some l) =
    (y.case ≡ l.case) × (vec_items y.postings ≡ l.postings) × (y.expected ≡ l.figures) × (y.import_even ≡ l.import_even)

-- the import adds up just where the year says so
abbrev pub AsTold : Bool → Type 0 → Type 0
AsTold true P = P
AsTold false P = P → ⊥

-- the figures of the year's entries are those worked by hand
abbrev pub Right : Listed → Type 0
Right l =
    (year_figures l.case (pairs_of l.postings) ≡ l.figures)
    × AsTold l.import_even (ImportEven (totals (pairs_of l.postings)).readings.import l.figures)

-- every year of the list is right
unfoldable pub YearsRight : Type 0
YearsRight = AllByRecursion Right years
