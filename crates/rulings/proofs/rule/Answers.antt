-- Each way out is a row that the four calls share; then the rows of a read or of a write decide.
use mathlib.Core.Path.{sym, ◌∙◌}
use Prim.Native.Nat.{◌<◌}
use Rattle.format.specs.Diskette.{eight_inch}
use Rattle.model.specs.Lent.{lend}
use Rattle.model.specs.Target.{target_slot, present_entry, target_entry}
use Rattle.facts.specs.Find.{file_says}
use Rattle.facts.specs.Naming.{run_own}
use Rattle.facts.specs.Current.{current_says}
use Rattle.current.specs.Current.{current_low}
use Rattle.rulings.specs.Ruling.{Among}
use Rattle.rulings.specs.Laws.{target_low, rule_over, rule_stale, rule_read, rule_write}
use borrow.Author.Rules.{rules}
use Rattle.rulings.proofs.rule.Goals as goal

pub returns-then-over_last : goal.returns-then-over_last
returns-then-over_last c buffer =
    let a = c.args in
    let over = rw c.requires.1.extent at c.if-over_last.ensures in
    sym (rule_over eight_inch a.number a.user (lend a.image.now a.map.now a.fcb.now buffer) (sym over))

pub returns-in_default : goal.returns-in_default
unfolding present_entry
returns-in_default c buffer =
    let a = c.args in
    let in_range = rw c.requires.1.extent at c.if-over_last.ensures in
    sym (rule_stale eight_inch a.number a.user (lend a.image.now a.map.now a.fcb.now buffer) (sym in_range) (sym c.current_entry.ensures ∙ c.in_default.is))

pub target_entry-found-requires : goal.target_entry-found-requires
target_entry-found-requires c =
    let entry = sym c.in-Some.ensures in
    let q = (current_says _ _ _ _ _ _ entry).found in search rules

pub slot_for-j-requires : goal.slot_for-j-requires
slot_for-j-requires c = target_low _ _ _ _ _ _ _ _ (sym c.in-Some.ensures) c.requires.1

pub rule_write-requires : goal.rule_write-requires
rule_write-requires c =
    let entry = sym c.in-Some.ensures in
    let low : c.in-Some.e < eight_inch.entries = current_low _ _ _ _ _ _ (current_says _ _ _ _ _ _ entry) in
    let among : Among eight_inch.entries c.target_entry-found.result = λ k q. (file_says _ _ _ _ _ _ _ (sym c.target_entry-found.ensures ∙ q)).below in
    search rules

pub returns-then-writes : goal.returns-then-writes
unfolding present_entry target_entry target_slot
returns-then-writes c buffer =
    let a = c.args in
    let entry = sym c.in-Some.ensures in
    let in_range = rw c.requires.1.extent at c.if-over_last.ensures in
    c.rule_write.ensures
    ∙ rw (c.slot_for-j.ensures.0, c.target_entry-found.ensures, c.requires.1.extent, c.requires.1.at)
    (sym (rule_write eight_inch a.number a.user (lend a.image.now a.map.now a.fcb.now buffer) c.in-Some.e entry run_own (sym in_range) (sym c.if-writes.ensures)))

pub rule_read-requires : goal.rule_read-requires
rule_read-requires c =
    let among : Among eight_inch.entries c.target_entry-found.result = λ k q. (file_says _ _ _ _ _ _ _ (sym c.target_entry-found.ensures ∙ q)).below in
    search rules

pub returns : goal.returns
unfolding present_entry target_entry target_slot
returns c buffer =
    let a = c.args in
    let entry = sym c.in-Some.ensures in
    let in_range = rw c.requires.1.extent at c.if-over_last.ensures in
    c.rule_read.ensures
    ∙ rw (c.slot_for-j.ensures.0, c.target_entry-found.ensures, c.requires.1.extent, c.requires.1.at)
    (sym (rule_read eight_inch a.number a.user (lend a.image.now a.map.now a.fcb.now buffer) c.in-Some.e entry run_own (sym in_range) (sym c.if-writes.ensures)))
