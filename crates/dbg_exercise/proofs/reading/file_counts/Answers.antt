-- The view is that of the file.
use Rattle.dbg_exercise.proofs.ReadingLaws.{file-said, view-countable}
use Rattle.dbg_exercise.proofs.reading.file_counts.Goals as goal

pub view_counts-requires : goal.view_counts-requires
view_counts-requires c = record {
  countable = view-countable c.args.bytes.now _ _ c.in_ok-elf.ensures.bytes c.in_ok-view.ensures.view c.requires.countable;
}

pub returns : goal.returns
returns c = record {
  counts = file-said c.args.bytes.now _ _ _ c.in_ok-elf.ensures.bytes c.in_ok-view.ensures.view c.in_ok-counts.ensures.counts;
}
