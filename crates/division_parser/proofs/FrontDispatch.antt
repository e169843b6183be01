-- At which entries the parts of the front begin.
use Rattle.std.proofs.Common.{◌≡◌, [], ◌∷◌, refl}
use Rattle.cob_base.specs.declared.keywords.Keyword.{Keyword}
use Rattle.cob_base.specs.declared.keywords.Keyword.TheVariants as k
use Rattle.cob_base.specs.declared.line.Line.{Line}
use Rattle.cob_base.specs.Form.{Words, opens}
use Rattle.cob_base.specs.EntryForm.{Entries, begins}
use Rattle.cob_base.specs.EntryForm.EntryForm.{entry}
use Rattle.cob_base.specs.Phrases.{key, noise, name}
use Rattle.cob_base.specs.FileEntries.{select}
use Rattle.cob_base.specs.DataEntries.{level}
use Rattle.cob_base.specs.ScreenEntries.{screen_entry}
use Rattle.cob_base.specs.Front.{header, header_of_two, name_entry, computer, special_names, configuration, file_control, input_output, environment, fd_entry, file_section, working_storage, screen_section, data_division}

pub begins_computer_is : (paragraph : Keyword) (es : Entries) → begins (computer paragraph) es ≡ begins (entry (λ line. header paragraph)) es
unfolding computer
begins_computer_is paragraph es = refl

pub opens_select_is : (line : Line) (w : Words) → opens (select line) w ≡ opens (key k.Select) w
unfolding select noise name
opens_select_is line [] = refl
opens_select_is line (v ∷ w) = refl

pub opens_fd_is : (line : Line) (w : Words) → opens (fd_entry line) w ≡ opens (key k.Fd) w
unfolding fd_entry name_entry name
opens_fd_is line [] = refl
opens_fd_is line (v ∷ w) = refl

pub opens_screen_entry_is : (line : Line) (w : Words) → opens (screen_entry line) w ≡ opens level w
unfolding screen_entry level
opens_screen_entry_is line w = refl

pub begins_special_names_is : (es : Entries) → begins special_names es ≡ begins (entry (λ line. header k.SpecialNames)) es
unfolding special_names
begins_special_names_is es = refl

pub begins_file_control_is : (es : Entries) → begins file_control es ≡ begins (entry (λ line. header k.FileControl)) es
unfolding file_control
begins_file_control_is es = refl

pub begins_configuration_is : (es : Entries) → begins configuration es ≡ begins (entry (λ line. header_of_two k.Configuration k.Section)) es
unfolding configuration
begins_configuration_is es = refl

pub begins_input_output_is : (es : Entries) → begins input_output es ≡ begins (entry (λ line. header_of_two k.InputOutput k.Section)) es
unfolding input_output
begins_input_output_is es = refl

pub begins_environment_is : (es : Entries) → begins environment es ≡ begins (entry (λ line. header_of_two k.Environment k.Division)) es
unfolding environment
begins_environment_is es = refl

pub begins_file_section_is : (es : Entries) → begins file_section es ≡ begins (entry (λ line. header_of_two k.File k.Section)) es
unfolding file_section
begins_file_section_is es = refl

pub begins_working_storage_is : (es : Entries) → begins working_storage es ≡ begins (entry (λ line. header_of_two k.WorkingStorage k.Section)) es
unfolding working_storage
begins_working_storage_is es = refl

pub begins_screen_section_is : (es : Entries) → begins screen_section es ≡ begins (entry (λ line. header_of_two k.Screen k.Section)) es
unfolding screen_section
begins_screen_section_is es = refl

pub begins_data_division_is : (es : Entries) → begins data_division es ≡ begins (entry (λ line. header_of_two k.Data k.Division)) es
unfolding data_division
begins_data_division_is es = refl
