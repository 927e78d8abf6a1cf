-- Fields, and the fields of the texts `plan` and `finished`. This project's profile: a text of the work
-- folder is a list of fields, each without a NUL and ended by one. Texts are written in version 2. Those of version 1, which
-- are older, are still read: their first field is another, and they say nothing of a map's pairs behind the first.
use Rattle.std.specs.Prelude.{ℕ, Bool, true, false, if◌then◌else◌, List, [], ◌∷◌, ◌++◌, length, drop, codes}
use Rattle.std.specs.List.{flat_map}
use Rattle.std.specs.Fmt.{decimal}
use Rattle.hex.specs.Hex.{encode_lower}
use Rattle.dw_base.specs.Paths.{MapPair, first_pair}
use Rattle.dw_base.specs.Texts.{laid_texts}
use Rattle.work_texts.specs.declared.key.RunKey.{RunKey}
use Rattle.work_texts.specs.declared.plan.JobLine.{JobLine}
use Rattle.work_texts.specs.declared.plan.PlanData.{PlanData}
use Rattle.work_texts.specs.declared.plan.VersionedPlan.{VersionedPlan}
use Rattle.work_texts.specs.declared.plan.FinishedData.{FinishedData}

abbrev pub Field : Type 0
Field = List ℕ

-- the text of some fields: each with a NUL behind it
abbrev pub text_of : List Field → List ℕ
text_of fields = laid_texts fields

-- an option that is on or off
abbrev pub flag_field : Bool → Field
flag_field on = if on then codes "1" else codes "0"

-- what is done with a file: it is split, or only edited
abbrev pub kind_field : Bool → Field
kind_field split = if split then codes "S" else codes "E"

-- the six fields of a key in a text of either version: of its map they say the first pair; numbers are decimal, with no leading zero
abbrev pub key_fields : RunKey → List Field
key_fields k = (first_pair k.maps).base ∷ (first_pair k.maps).dest ∷ flag_field k.build_id ∷ k.seed ∷ flag_field k.skip ∷ decimal k.max_file ∷ []

-- the fields of a pair of a map, and those of some pairs
abbrev pub side_fields : MapPair → List Field
side_fields p = p.base ∷ p.dest ∷ []

abbrev pub pair_fields : List MapPair → List Field
pair_fields ps = flat_map side_fields ps

-- the pairs of a key's map behind the first
abbrev pub more_pairs : RunKey → List MapPair
more_pairs k = drop 1 k.maps.pairs

-- what a text says of the pairs behind the first: how many there are, and the fields of each; an old text says nothing
abbrev pub more_fields : Bool → List MapPair → List Field
more_fields true ps = []
more_fields false ps = decimal (length ps) ∷ pair_fields ps

-- all fields of a key in a text that is old, which has version 1, or isn't
abbrev pub keyed_fields : Bool → RunKey → List Field
keyed_fields old k = key_fields k ++ more_fields old (more_pairs k)

-- the five fields of a job; digest and id are lower-case hexadecimal digits
abbrev pub job_fields : JobLine → List Field
job_fields j = kind_field j.split ∷ j.path ∷ encode_lower j.digest ∷ encode_lower j.id ∷ decimal j.number ∷ []

-- the fields of `plan` behind its key
abbrev pub plan_rest : PlanData → List Field
plan_rest p =
    p.report ∷ decimal (length p.jobs) ∷ (flat_map job_fields p.jobs ++ (decimal (length p.sources) ∷ (p.sources ++ codes "end" ∷ [])))

-- the first field of `plan` and of `finished`
abbrev pub plan_word : Bool → Field
plan_word old = if old then codes "dbgplan 1" else codes "dbgplan 2"

abbrev pub finished_word : Bool → Field
finished_word old = if old then codes "dbgfinished 1" else codes "dbgfinished 2"

-- the fields of a plan in a text of its version
abbrev pub plan_text_fields : VersionedPlan → List Field
plan_text_fields v = plan_word v.old ∷ (keyed_fields v.old v.plan.key ++ plan_rest v.plan)

-- the fields of `plan` as it is written
abbrev pub plan_fields : PlanData → List Field
plan_fields p = plan_text_fields (record { old = false; plan = p })

-- the fields of `finished` in a text of its version
abbrev pub finished_fields : FinishedData → List Field
finished_fields d = finished_word d.old ∷ (keyed_fields d.old d.key ++ d.report ∷ [])
