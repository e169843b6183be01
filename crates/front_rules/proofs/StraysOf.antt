-- The 88 entries after no item, section by section.
use Rattle.std.proofs.Common.{◌≡◌, refl, ◌∙◌, ap, [], ◌∷◌, ◌++◌, map, append-nil, Option, Some, None}
use Rattle.std.specs.List.{flat_map}
use Rattle.std.proofs.lemmas.Grind.{flat_map-append}
use Rattle.std.proofs.lemmas.List.Folds.{flat_map-map}
use Rattle.cob_base.specs.declared.divisions.DataDivision.{DataDivision}
use Rattle.cob_base.specs.declared.divisions.FileDescription.{FileDescription}
use Rattle.data_layout.specs.Rows.{Section, data_sections, file_section, storage_section, or_none, leading_conditions, strays}
use Rattle.data_names.specs.Parts.{descriptions_of, working_storage_of}

pub strays-is : (d : Option DataDivision) → strays (data_sections d) ≡ flat_map (λ (file : FileDescription). leading_conditions file.records) (descriptions_of d) ++ leading_conditions (working_storage_of d)
strays-is None = refl
strays-is (Some division) =
    flat_map-append (λ (section : Section). leading_conditions section.entries) (map file_section (or_none division.files)) (storage_section (or_none division.working_storage) ∷ [])
    ∙ ap (λ lines. lines ++ (leading_conditions (or_none division.working_storage) ++ [])) (flat_map-map (λ (section : Section). leading_conditions section.entries) file_section (or_none division.files))
    ∙ ap (λ lines. flat_map (λ (file : FileDescription). leading_conditions file.records) (or_none division.files) ++ lines) (append-nil (leading_conditions (or_none division.working_storage)))
