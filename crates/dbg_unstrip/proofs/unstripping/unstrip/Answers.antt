-- A file that was split comes back, and nothing but want of room keeps it from that, whatever is answered.
use Rattle.dbg_unstrip.proofs.RejoinedLaws.{comes-back, split-matches}
use Rattle.dbg_unstrip.proofs.UnstripRows.{unstrip-excludes}
use Rattle.dbg_unstrip.proofs.unstripping.unstrip.Goals as goal

pub returns-clause-none : goal.returns-clause-none
returns-clause-none c = λ e fails.
    unstrip-excludes c.args.stripped.now.bytes.now c.args.debug.now.bytes.now c.args.name.now e c.in_ok-file.ensures.joinable fails

pub returns-clause-matched : goal.returns-clause-matched
returns-clause-matched c = λ b was.
    split-matches b c.args.name.now c.args.stripped.now.bytes.now c.args.debug.now.bytes.now c.args.stripped.now.is_elf.small c.args.debug.now.is_elf.small was

pub returns-clause-back : goal.returns-clause-back
returns-clause-back c = λ b was small.
    comes-back b c.args.name.now c.args.stripped.now.bytes.now c.args.debug.now.bytes.now c.args.stripped.now.is_elf.small c.args.debug.now.is_elf.small
    c.in_ok-file.ensures.stripped_bytes c.in_ok-file.ensures.debug_bytes was small

pub returns-in_err-file-clause-matched : goal.returns-in_err-file-clause-matched
returns-in_err-file-clause-matched c = λ b was.
    split-matches b c.args.name.now c.args.stripped.now.bytes.now c.args.debug.now.bytes.now c.args.stripped.now.is_elf.small c.args.debug.now.is_elf.small was

pub returns-in_err-file-clause-back : goal.returns-in_err-file-clause-back
returns-in_err-file-clause-back c = λ b was small.
    comes-back b c.args.name.now c.args.stripped.now.bytes.now c.args.debug.now.bytes.now c.args.stripped.now.is_elf.small c.args.debug.now.is_elf.small
    c.in_err-file.ensures.stripped_bytes c.in_err-file.ensures.debug_bytes was small
