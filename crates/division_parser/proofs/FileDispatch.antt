-- At which words the clauses of a file control entry open: where they are read.
use Rattle.std.proofs.Common.{◌≡◌, [], ◌∷◌, refl}
use Rattle.cob_base.specs.declared.keywords.Keyword.TheVariants as k
use Rattle.cob_base.specs.declared.tokens.Token.TheVariants.{Key}
use Rattle.cob_base.specs.Form.Form.{some}
use Rattle.cob_base.specs.Form.{Words, opens}
use Rattle.cob_base.specs.Phrases.{key, noise, same_key, reference}
use Rattle.cob_base.specs.FileEntries.{duplicates, lock_on, organization_words, indexed_or_outside, outside_file, organization, access_mode, access, record_key, alternate_key, status_words, status_rest, file_status, lock_mode, lock_front, lock, sharing_clause, sharing, file_clause}
use Rattle.phrase_parser.specs.Reading.{read, is_read}

pub opens_duplicates_is : (w : Words) → opens duplicates w ≡ is_read (read duplicates w)
unfolding duplicates noise same_key
opens_duplicates_is (Key k.Duplicates ∷ w) = refl
opens_duplicates_is (Key k.With ∷ Key k.Duplicates ∷ w) = refl
opens_duplicates_is (Key k.With ∷ _) = refl
opens_duplicates_is _ = refl

pub opens_lock_on_is : (w : Words) → opens lock_on w ≡ is_read (read lock_on w)
unfolding lock_on noise same_key
opens_lock_on_is (Key k.Lock ∷ Key k.On ∷ Key k.Multiple ∷ Key k.Record ∷ w) = refl
opens_lock_on_is (Key k.Lock ∷ Key k.On ∷ Key k.Multiple ∷ Key k.Records ∷ w) = refl
opens_lock_on_is (Key k.Lock ∷ Key k.On ∷ Key k.Multiple ∷ _) = refl
opens_lock_on_is (Key k.Lock ∷ Key k.On ∷ Key k.Record ∷ w) = refl
opens_lock_on_is (Key k.Lock ∷ Key k.On ∷ Key k.Records ∷ w) = refl
opens_lock_on_is (Key k.Lock ∷ Key k.On ∷ _) = refl
opens_lock_on_is (Key k.Lock ∷ _) = refl
opens_lock_on_is (Key k.With ∷ Key k.Lock ∷ Key k.On ∷ Key k.Multiple ∷ Key k.Record ∷ w) = refl
opens_lock_on_is (Key k.With ∷ Key k.Lock ∷ Key k.On ∷ Key k.Multiple ∷ Key k.Records ∷ w) = refl
opens_lock_on_is (Key k.With ∷ Key k.Lock ∷ Key k.On ∷ Key k.Multiple ∷ _) = refl
opens_lock_on_is (Key k.With ∷ Key k.Lock ∷ Key k.On ∷ Key k.Record ∷ w) = refl
opens_lock_on_is (Key k.With ∷ Key k.Lock ∷ Key k.On ∷ Key k.Records ∷ w) = refl
opens_lock_on_is (Key k.With ∷ Key k.Lock ∷ Key k.On ∷ _) = refl
opens_lock_on_is (Key k.With ∷ Key k.Lock ∷ _) = refl
opens_lock_on_is (Key k.With ∷ _) = refl
opens_lock_on_is _ = refl

pub opens_organization_words_is : (w : Words) → opens organization_words w ≡ is_read (read organization_words w)
unfolding organization_words noise same_key
opens_organization_words_is (Key k.Organization ∷ Key k.Is ∷ w) = refl
opens_organization_words_is (Key k.Organization ∷ w) = refl
opens_organization_words_is _ = refl

pub opens_organization_is : (w : Words) → opens organization w ≡ is_read (read organization w)
unfolding organization organization_words indexed_or_outside outside_file noise same_key
opens_organization_is (Key k.Indexed ∷ w) = refl
opens_organization_is (Key k.Line ∷ w) = refl
opens_organization_is (Key k.Organization ∷ Key k.Indexed ∷ w) = refl
opens_organization_is (Key k.Organization ∷ Key k.Is ∷ Key k.Indexed ∷ w) = refl
opens_organization_is (Key k.Organization ∷ Key k.Is ∷ Key k.Line ∷ w) = refl
opens_organization_is (Key k.Organization ∷ Key k.Is ∷ Key k.OutsideFileWord ∷ w) = refl
opens_organization_is (Key k.Organization ∷ Key k.Is ∷ Key k.Sequential ∷ w) = refl
opens_organization_is (Key k.Organization ∷ Key k.Is ∷ _) = refl
opens_organization_is (Key k.Organization ∷ Key k.Line ∷ w) = refl
opens_organization_is (Key k.Organization ∷ Key k.OutsideFileWord ∷ w) = refl
opens_organization_is (Key k.Organization ∷ Key k.Sequential ∷ w) = refl
opens_organization_is (Key k.Organization ∷ _) = refl
opens_organization_is (Key k.OutsideFileWord ∷ w) = refl
opens_organization_is (Key k.Sequential ∷ w) = refl
opens_organization_is _ = refl

pub opens_access_is : (w : Words) → opens access w ≡ is_read (read access w)
unfolding access access_mode noise same_key
opens_access_is (Key k.Access ∷ Key k.Dynamic ∷ w) = refl
opens_access_is (Key k.Access ∷ Key k.Is ∷ Key k.Dynamic ∷ w) = refl
opens_access_is (Key k.Access ∷ Key k.Is ∷ Key k.Random ∷ w) = refl
opens_access_is (Key k.Access ∷ Key k.Is ∷ Key k.Sequential ∷ w) = refl
opens_access_is (Key k.Access ∷ Key k.Is ∷ _) = refl
opens_access_is (Key k.Access ∷ Key k.Mode ∷ Key k.Dynamic ∷ w) = refl
opens_access_is (Key k.Access ∷ Key k.Mode ∷ Key k.Is ∷ Key k.Dynamic ∷ w) = refl
opens_access_is (Key k.Access ∷ Key k.Mode ∷ Key k.Is ∷ Key k.Random ∷ w) = refl
opens_access_is (Key k.Access ∷ Key k.Mode ∷ Key k.Is ∷ Key k.Sequential ∷ w) = refl
opens_access_is (Key k.Access ∷ Key k.Mode ∷ Key k.Is ∷ _) = refl
opens_access_is (Key k.Access ∷ Key k.Mode ∷ Key k.Random ∷ w) = refl
opens_access_is (Key k.Access ∷ Key k.Mode ∷ Key k.Sequential ∷ w) = refl
opens_access_is (Key k.Access ∷ Key k.Mode ∷ _) = refl
opens_access_is (Key k.Access ∷ Key k.Random ∷ w) = refl
opens_access_is (Key k.Access ∷ Key k.Sequential ∷ w) = refl
opens_access_is (Key k.Access ∷ _) = refl
opens_access_is _ = refl

pub opens_record_key_is : (w : Words) → opens record_key w ≡ opens (key k.Record) w
unfolding record_key noise reference sharing
opens_record_key_is [] = refl
opens_record_key_is (v ∷ w) = refl

pub opens_alternate_key_is : (w : Words) → opens alternate_key w ≡ opens (key k.Alternate) w
unfolding alternate_key noise reference sharing
opens_alternate_key_is [] = refl
opens_alternate_key_is (v ∷ w) = refl

pub opens_sharing_clause_is : (w : Words) → opens sharing_clause w ≡ opens (key k.Sharing) w
unfolding sharing_clause noise reference sharing
opens_sharing_clause_is [] = refl
opens_sharing_clause_is (v ∷ w) = refl

pub opens_file_status_is : (w : Words) → opens file_status w ≡ is_read (read status_words w)
unfolding file_status status_rest status_words noise same_key reference
opens_file_status_is (Key k.File ∷ Key k.Status ∷ w) = refl
opens_file_status_is (Key k.File ∷ _) = refl
opens_file_status_is (Key k.Status ∷ w) = refl
opens_file_status_is _ = refl

pub opens_lock_is : (w : Words) → opens lock w ≡ is_read (read lock_front w)
unfolding lock lock_front lock_mode lock_on noise same_key
opens_lock_is (Key k.Lock ∷ Key k.Automatic ∷ w) = refl
opens_lock_is (Key k.Lock ∷ Key k.Is ∷ Key k.Automatic ∷ w) = refl
opens_lock_is (Key k.Lock ∷ Key k.Is ∷ Key k.Manual ∷ w) = refl
opens_lock_is (Key k.Lock ∷ Key k.Is ∷ _) = refl
opens_lock_is (Key k.Lock ∷ Key k.Manual ∷ w) = refl
opens_lock_is (Key k.Lock ∷ Key k.Mode ∷ Key k.Automatic ∷ w) = refl
opens_lock_is (Key k.Lock ∷ Key k.Mode ∷ Key k.Is ∷ Key k.Automatic ∷ w) = refl
opens_lock_is (Key k.Lock ∷ Key k.Mode ∷ Key k.Is ∷ Key k.Manual ∷ w) = refl
opens_lock_is (Key k.Lock ∷ Key k.Mode ∷ Key k.Is ∷ _) = refl
opens_lock_is (Key k.Lock ∷ Key k.Mode ∷ Key k.Manual ∷ w) = refl
opens_lock_is (Key k.Lock ∷ Key k.Mode ∷ _) = refl
opens_lock_is (Key k.Lock ∷ _) = refl
opens_lock_is _ = refl

pub opens_file_clauses_is : (w : Words) → opens file_clause w ≡ opens (some file_clause) w
unfolding file_clause
opens_file_clauses_is w = refl
