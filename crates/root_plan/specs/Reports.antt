-- What a run prints in the end. This project's profile.
use Rattle.std.specs.Prelude.{ℕ, ◌*◌, not, List, ◌++◌, codes, count_by, length}
use Rattle.std.specs.Fmt.{decimal}
use Rattle.std.specs.List.{flat_map}
use Rattle.job_types.specs.Kinds.{kind_text}
use Rattle.work_texts.specs.declared.plan.JobLine.{JobLine}
use Rattle.root_plan.specs.declared.refused.Skipped.{Skipped}
use Rattle.root_plan.specs.Targets.{has_links}
use Rattle.root_plan.specs.Tallies.{Tally}

-- how many jobs are split and how many only edited; two links lead to the files of each split one with a build-id
abbrev pub split_count : List JobLine → ℕ
split_count jobs = count_by (λ job. job.split) jobs

abbrev pub edited_count : List JobLine → ℕ
edited_count jobs = count_by (λ job. not job.split) jobs

abbrev pub link_count : List JobLine → ℕ
link_count jobs = 2 * count_by has_links jobs

-- the line of numbers
unfoldable pub job_counts : ℕ → ℕ → List ℕ
job_counts split edited = codes "split " ++ (decimal split ++ (codes ", edited " ++ decimal edited))

unfoldable pub other_counts : ℕ → ℕ → ℕ → ℕ → List ℕ
other_counts left skipped links sources =
    codes ", left " ++ (decimal left ++ (codes ", skipped " ++ (decimal skipped ++ (codes ", links " ++ (decimal links
    ++ (codes ", sources " ++ (decimal sources ++ codes "\n")))))))

abbrev pub count_line : List JobLine → ℕ → ℕ → ℕ → List ℕ
count_line jobs left skipped sources = job_counts (split_count jobs) (edited_count jobs) ++ other_counts left skipped (link_count jobs) sources

-- the line of a file that is skipped
unfoldable pub skipped_line : Skipped → List ℕ
skipped_line s =
    codes "skipped " ++ (s.path ++ (codes ": " ++ (kind_text s.refusal.kind
    ++ (codes " section " ++ (decimal s.refusal.section ++ (codes " offset " ++ (decimal s.refusal.offset ++ codes "\n")))))))

-- the report of these jobs, of files that are left or skipped, and of so many sources
unfoldable pub report_text : List JobLine → ℕ → List Skipped → ℕ → List ℕ
report_text jobs left skipped sources =
    count_line jobs left (length skipped) sources ++ flat_map skipped_line skipped

abbrev pub report_of : Tally → List ℕ
report_of t = report_text t.jobs t.left t.skipped (length t.sources)
