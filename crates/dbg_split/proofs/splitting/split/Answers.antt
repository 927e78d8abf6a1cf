-- Both files read back, what is loaded is kept, and the pair has the sections and the meaning.
use Rattle.dbg_split.proofs.PairLaws.{debug-back, joins-back, loaded-back, means-back, paired-back, reads-back, stripped-back}
use Rattle.dbg_split.proofs.splitting.split.Goals as goal

pub returns-clause-stripped_reads : goal.returns-clause-stripped_reads
returns-clause-stripped_reads c =
    let made = c.in_ok-pair.ensures in
    stripped-back c.args.bytes.now c.args.debug_name.now c.in_ok-pair.pair.stripped.items c.requires.small made.reads made.bytes made.none made.stripped

pub returns-clause-debug_reads : goal.returns-clause-debug_reads
returns-clause-debug_reads c =
    let made = c.in_ok-pair.ensures in
    debug-back c.args.bytes.now c.args.debug_name.now c.in_ok-pair.pair.debug c.requires.small made.reads made.bytes made.none made.debug

pub returns-clause-loaded : goal.returns-clause-loaded
returns-clause-loaded c =
    let made = c.in_ok-pair.ensures in
    loaded-back c.args.bytes.now c.args.debug_name.now c.in_ok-pair.pair.stripped.items c.requires.small made.reads made.bytes made.none made.kept made.stripped

pub returns-clause-joins : goal.returns-clause-joins
returns-clause-joins c =
    let made = c.in_ok-pair.ensures in
    joins-back c.args.bytes.now c.args.debug_name.now c.in_ok-pair.pair.debug c.in_ok-pair.pair.stripped.items c.requires.small made.reads made.bytes made.none
    made.debug made.stripped

pub returns-clause-meaning : goal.returns-clause-meaning
returns-clause-meaning c =
    let made = c.in_ok-pair.ensures in
    means-back c.args.bytes.now c.args.debug_name.now c.in_ok-pair.pair.debug c.in_ok-pair.pair.stripped.items c.requires.small made.reads made.bytes made.none
    made.debug made.stripped

pub returns-clause-paired : goal.returns-clause-paired
returns-clause-paired c =
    let made = c.in_ok-pair.ensures in
    paired-back c.args.bytes.now c.args.debug_name.now c.in_ok-pair.pair.debug c.in_ok-pair.pair.stripped.items c.requires.small made.reads made.bytes made.none
    made.debug made.stripped

pub returns-clause-reads : goal.returns-clause-reads
returns-clause-reads c =
    let made = c.in_ok-pair.ensures in
    reads-back c.args.bytes.now c.args.debug_name.now c.in_ok-pair.pair.debug c.in_ok-pair.pair.stripped.items c.requires.small made.reads made.bytes made.none
    made.kept made.debug made.stripped
