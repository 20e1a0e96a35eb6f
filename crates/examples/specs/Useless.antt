-- The useless builds of document 01: for each an input at which it does something else than `step`. The inputs stand on an erased disk,
-- or on one with a single file, straight after a log-in.
use Rattle.std.proofs.Math.Path.{◌≡◌, refl, ap}
use Rattle.std.proofs.Common.{sym, ◌∙◌, arith}
use Rattle.std.specs.Prelude.{true, List, [], ◌∷◌, ℕ, zero, suc, ◌*◌, ◌%◌, length, replicate}
use Rattle.std.proofs.Math.ListN.{get_or, length-replicate}
use Rattle.lists.specs.Cases.{split, eq_or_ne}
use Rattle.lists.specs.Tests.{◌and◌}
use Rattle.lists.specs.Splice.{splice}
use Rattle.table.specs.Own.{ask, verdict_unlisted}
use Rattle.format.specs.Diskette.{Bytes, record_bytes, eight_inch, Long}
use Rattle.format.specs.Entries.{entry_at}
use Rattle.format.specs.Consistent.{consistent}
use Rattle.format.specs.Fcb.{fcb_bytes}
use Rattle.format.specs.Notes.{fresh_map, free_count_rule}
use Rattle.disk.specs.Eight.{eight_sound}
use Rattle.model.specs.declared.Asked.{Asked}
use Rattle.model.specs.declared.Session.{Session}
use Rattle.model.specs.declared.Code.TheVariants.{Accepted, NotListed}
use Rattle.model.specs.declared.Kind.TheVariants.{Write}
use Rattle.model.specs.Target.{target_extent, target_record}
use Rattle.model.specs.Lent.{Lent, lend, Outcome, ends, ended}
use Rattle.model.specs.Kinds.{is_call, kind_of, uses_fcb_rule}
use Rattle.model.specs.Calls.{created_at, created}
use Rattle.model.specs.Entering.{made_row_rule}
use Rattle.model.specs.Table.{time_right_rule}
use Rattle.model.specs.Step.{effect, stamped, step}
use Rattle.fields.specs.Entering.{length_copied}
use Rattle.fields.specs.Making.{length_made_row}
use Rattle.fields.specs.Erased.{ErasedDisk, erased_consistent}
use Rattle.table.proofs.Total.{total, total_refused}
use Rattle.table.specs.Accepted.{accepted_answer}
use Rattle.demands.specs.Runs.{Request, Disk, lent_to, outcome_of, left, accepts, after, lifted_disk, run}
use Rattle.demands.specs.Reading.{Gives, at_record_rule, record_number}
use Rattle.demands.specs.ReadBack.{read_fcb}
use Rattle.demands.specs.Begins.{Asks}
use Rattle.demands.proofs.Eight.{eight_read_back, eight_begins}
use Rattle.examples.specs.Erased.{ask_right, start, blank, notes, fitting, space_step, erased_count}
use Rattle.examples.specs.OneFile.{file_fcb, length_file_fcb, drive_low, fcb_name}

-- a build answers a call by its place in a run, counted from 0, and by what is asked, lent and handed on
abbrev pub Build : Type 0
Build = ℕ → Asked → Lent → Session → Outcome

-- an input at which a build does something else than `step`
pub record Falls (b : Build) : Type 0 where
  pub place : ℕ
  pub asked : Asked
  pub lent : Lent
  pub session : Session
  pub differs : b place asked lent session ≡ step eight_inch asked lent session → ⊥

-- the right build: the step of the model at every place
abbrev pub right : Build
right k = step eight_inch

-- ---- demand 2's write and read, of a build
abbrev pub done_by : Build → ℕ → Disk → Request → Outcome
done_by b k d q = b k q.asked (lent_to d q) d.session

-- the disk after calls that a build makes, the first of them at place k
unfoldable pub run_by : Build → ℕ → Disk → List Request → Disk
run_by b k d [] = d
run_by b k d (q ∷ qs) = run_by b (suc k) (left (done_by b k d q)) qs

-- a build makes the write w at place k, and is asked straight after for its record, through the FCB that it handed back with r0 to r2 alone set
abbrev pub asked_back : Build → ℕ → Disk → Request → Asked → Bytes → Outcome
asked_back b k d w asked buffer =
    done_by b (suc k) (left (done_by b k d w)) record {
      asked = asked;
      fcb = at_record_rule (done_by b k d w).lent.fcb (record_number (target_extent w.asked.number w.fcb) (target_record w.asked.number w.fcb));
      buffer = buffer;
    }

-- a build that takes a write and does not give it back: on the disk that its own calls left `step` accepts the write, the build says that it
-- did too, and 33 with a time in BCD and a buffer of 128 bytes is not answered 0, 0 with the bytes that were written
pub record Forgets (b : Build) : Type 0 where
  pub begin : Disk
  pub earlier : List Request
  pub write : Request
  pub writes : kind_of write.asked.number ≡ Write
  pub accepted : accepts eight_inch (run_by b 0 begin earlier) write ≡ true
  pub taken : accepted_answer write.asked.number (done_by b (length earlier) (run_by b 0 begin earlier) write).answer ≡ true
  pub reading : Asked
  pub reads : reading.number ≡ 33
  pub time : time_right_rule reading ≡ true
  pub buffer : Bytes
  pub buffer_long : length buffer ≡ record_bytes
  pub lost : Gives (asked_back b (length earlier) (run_by b 0 begin earlier) write reading buffer) write.buffer → ⊥

-- the right build gives every write back
pub right_remembers : Forgets right → ⊥
unfolding outcome_of after run read_fcb
right_remembers f =
    f.lost (eight_read_back (run_by right 0 f.begin f.earlier) f.write f.writes f.accepted [] tt f.reading f.reads f.time f.buffer f.buffer_long)

-- ---- what the builds are run on: what fits, with an FCB of file A
-- what a log-in leaves, and the outcome of a call on it
abbrev pub lent_after : Bytes → Lent
lent_after img = lend img (fresh_map eight_inch (entry_at eight_inch img)) file_fcb blank

abbrev pub on_logged : ℕ → Bytes → Outcome
on_logged n img = step eight_inch (ask n) (lent_after img) (ended start)

module _ (img : Bytes) (long : Long eight_inch img) (right : consistent eight_inch img ≡ true) where
  space_answers : ((on_logged 46 img).answer.a ≡ 0) × ((on_logged 46 img).answer.h ≡ 0)
  space_answers = let two = space_step eight_inch img long right notes file_fcb blank start (fitting file_fcb length_file_fcb) (ask 0) (ask_right 0) in (rw two, rw two)

  pub space_byte : (count : ℕ) → free_count_rule eight_inch (fresh_map eight_inch (entry_at eight_inch img)) ≡ count → get_or (on_logged 46 img).lent.buffer 0 0 ≡ 8 * count % 256
  unfolding splice
  space_byte count q = let two = space_step eight_inch img long right notes file_fcb blank start (fitting file_fcb length_file_fcb) (ask 0) (ask_right 0) in rw (two, q)

module _ (img : Bytes) (erased : ErasedDisk eight_inch img) where
  -- the erased disk: 46 answers 0, 0, and the first byte is 88H
  erased_answers : ((on_logged 46 img).answer.a ≡ 0) × ((on_logged 46 img).answer.h ≡ 0)
  erased_answers = space_answers img erased.long (erased_consistent eight_inch img erased eight_sound)

  pub erased_byte : get_or (on_logged 46 img).lent.buffer 0 0 ≡ 136
  erased_byte = space_byte img erased.long (erased_consistent eight_inch img erased eight_sound) 241 (erased_count eight_sound img erased)

-- ---- a write that `step` accepts: the first one to a file made on an erased disk that is logged in, with the protection lifted
abbrev asking : ℕ → Bytes → Bytes → Request
asking n fcb buffer = record { asked = ask n; fcb = fcb; buffer = buffer }

abbrev at_hand : Bytes → Disk
at_hand img = record { drive = record { image = img; map = notes }; session = start }

abbrev logged : Bytes → Disk
logged img = lifted_disk (after eight_inch (at_hand img) (asking 13 file_fcb blank))

abbrev making : Request
making = asking 22 file_fcb blank

abbrev first_write : Bytes → Request
first_write img = asking 21 (outcome_of eight_inch (logged img) making).lent.fcb (replicate 128 1)

length_made : (img : Bytes) → length (outcome_of eight_inch (logged img) making).lent.fcb ≡ fcb_bytes
unfolding outcome_of effect stamped kind_of created created_at
length_made img =
    let d = logged img in
    let row : Bytes = made_row_rule d.session.user file_fcb in
    split (total eight_inch (ask 22) (lent_to d making) d.session) (λ r. ap (λ (l : Lent). length l.fcb) r.1.kept ∙ length_file_fcb)
    (λ c. ap (λ (o : Outcome). length o.lent.fcb) c.is
    ∙ length_copied file_fcb row (omega (arith, length_file_fcb)) (omega (arith, length_made_row d.session.user file_fcb)) ∙ length_file_fcb)

first_accepted : (img : Bytes) → ErasedDisk eight_inch img → accepts eight_inch (after eight_inch (logged img) making) (first_write img) ≡ true
unfolding file_fcb
first_accepted img erased =
    let asks : (n : ℕ) → Asks (asking n file_fcb blank) n =
    λ n. record { number = refl; time = ask_right n; fcb = length_file_fcb; buffer = length-replicate {A = ℕ} 128 0 } in
    (eight_begins (at_hand img) erased (length-replicate {A = ℕ} 243 0) record { user = omega arith; place = omega arith }
    (asking 13 file_fcb blank) making (first_write img) (asks 13) (asks 22) drive_low fcb_name (omega arith) (omega arith)
    record { number = refl; time = ask_right 21; fcb = length_made img; buffer = length-replicate {A = ℕ} 128 1 } refl).2

-- ---- one that refuses all: A and H are never both 0, whatever the codes; the table of codes has that pair for an accepted call alone
abbrev pub RefusesAll : Build → Type 0
RefusesAll b = (k : ℕ) (asked : Asked) (l : Lent) (s : Session) → (b k asked l s).answer.a ≡ 0 → (b k asked l s).answer.h ≡ 0 → ⊥

-- one that answers a fixed A
abbrev pub AnswersFixed : ℕ → Build → Type 0
AnswersFixed a b = (k : ℕ) (asked : Asked) (l : Lent) (s : Session) → (b k asked l s).answer.a ≡ a

-- one that changes nothing
abbrev pub DoesNothing : Build → Type 0
DoesNothing b = (k : ℕ) (asked : Asked) (l : Lent) (s : Session) → (b k asked l s).lent ≡ l

-- one that truly handles the first call, and only answers 0 later
abbrev pub first_only : Build
first_only zero asked l s = step eight_inch asked l s
first_only (suc k) asked l s = ends (Accepted 0) s l

-- what is lent differs in image and map alone
pub record SameBuffers (l m : Lent) : Type 0 where
  pub same_fcb : l.fcb ≡ m.fcb
  pub same_buffer : l.buffer ≡ m.buffer

-- one that makes up free space, or sizes: its answer does not go by image and map
abbrev pub MakesUpSpace : Build → Type 0
MakesUpSpace b = (k : ℕ) (l m : Lent) (s : Session) → SameBuffers l m → (b k (ask 46) l s).lent.buffer ≡ (b k (ask 46) m s).lent.buffer

abbrev pub MakesUpSizes : Build → Type 0
MakesUpSizes b = (k : ℕ) (l m : Lent) (s : Session) → SameBuffers l m → (b k (ask 35) l s).lent.fcb ≡ (b k (ask 35) m s).lent.fcb

-- ---- each falls
module _ (img : Bytes) (erased : ErasedDisk eight_inch img) where
  pub refuses_all_falls : (b : Build) → RefusesAll b → Falls b
  refuses_all_falls b r = record {
    place = 1;
    asked = ask 46;
    lent = lent_after img;
    session = ended start;
    differs = λ q. let z = erased_answers img erased in
        r 1 (ask 46) (lent_after img) (ended start) (ap (λ (o : Outcome). o.answer.a) q ∙ z.0) (ap (λ (o : Outcome). o.answer.h) q ∙ z.1);
  }

  -- call 0 is not listed
  unlisted_answers : (l : Lent) (s : Session) → (step eight_inch (ask 0) l s).answer.a ≡ 255
  unfolding is_call kind_of uses_fcb_rule
  unlisted_answers l s = (total_refused eight_inch (ask 0) l s NotListed (verdict_unlisted eight_inch (ask 0) l s refl)).is_a

  pub fixed_falls : (a : ℕ) (b : Build) → AnswersFixed a b → Falls b
  fixed_falls a b f =
      split (eq_or_ne a 0)
      (λ z. record {
        place = 1;
        asked = ask 0;
        lent = lent_after img;
        session = ended start;
        differs = λ q. let w : a ≡ 255 = sym (f 1 (ask 0) (lent_after img) (ended start)) ∙ ap (λ (o : Outcome). o.answer.a) q
            ∙ unlisted_answers (lent_after img) (ended start) in omega arith;
      })
      (λ z. record {
        place = 1;
        asked = ask 46;
        lent = lent_after img;
        session = ended start;
        differs = λ q. z (sym (f 1 (ask 46) (lent_after img) (ended start)) ∙ ap (λ (o : Outcome). o.answer.a) q ∙ (erased_answers img erased).0);
      })

  -- 46 must change the first byte of the buffer
  kept_falls : (o : Outcome) → o.lent ≡ lent_after img → o ≡ on_logged 46 img → ⊥
  kept_falls o kept q =
      let byte : get_or (lent_after img).buffer 0 0 ≡ 136 = ap (λ (l : Lent). get_or l.buffer 0 0) (sym kept) ∙ ap (λ (o : Outcome). get_or o.lent.buffer 0 0) q ∙ erased_byte img erased in
      omega arith

  pub nothing_falls : (b : Build) → DoesNothing b → Falls b
  nothing_falls b f = record { place = 1; asked = ask 46; lent = lent_after img; session = ended start; differs = kept_falls _ (f 1 (ask 46) (lent_after img) (ended start)) }

  pub first_only_falls : Falls first_only
  first_only_falls = record { place = 1; asked = ask 46; lent = lent_after img; session = ended start; differs = kept_falls _ refl }

  -- it makes a file on a disk that is logged in, as it should; the write after it is lost: 33 hands back the buffer as it was lent
  pub first_only_forgets : Forgets first_only
  unfolding outcome_of after run_by accepted_answer kind_of ◌and◌
  first_only_forgets = record {
    begin = logged img;
    earlier = making ∷ [];
    write = first_write img;
    writes = refl;
    accepted = first_accepted img erased;
    taken = refl;
    reading = ask 33;
    reads = refl;
    time = ask_right 33;
    buffer = blank;
    buffer_long = length-replicate {A = ℕ} 128 0;
    lost = λ g. let z : ◌≡◌ {A = ℕ} 0 1 = ap (λ (x : Bytes). get_or x 0 0) g.is_buffer in omega arith;
  }

-- ---- together, on a disk of E5H throughout
-- a build that is none of these
pub record Useful (b : Build) : Type 0 where
  pub not_refusing : RefusesAll b → ⊥
  pub not_fixed : (a : ℕ) → AnswersFixed a b → ⊥
  pub not_idle : DoesNothing b → ⊥
  pub not_first_only : ((k : ℕ) (asked : Asked) (l : Lent) (s : Session) → first_only k asked l s ≡ b k asked l s) → ⊥
  pub not_forgetting : Forgets b → ⊥
  pub not_space : MakesUpSpace b → ⊥
  pub not_sizes : MakesUpSizes b → ⊥

pub record Useless : Type 0 where
  pub refuses_all : (b : Build) → RefusesAll b → Falls b
  pub fixed : (a : ℕ) (b : Build) → AnswersFixed a b → Falls b
  pub nothing : (b : Build) → DoesNothing b → Falls b
  pub first_only_law : Falls first_only
  pub first_only_write : Forgets first_only
  pub made_up_space : (b : Build) → MakesUpSpace b → Falls b
  pub made_up_sizes : (b : Build) → MakesUpSizes b → Falls b
  -- and the right build does not fall, and is none of them
  pub right_stands : Falls right → ⊥
  pub right_useful : Useful right
