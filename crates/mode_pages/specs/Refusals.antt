-- What a refused MODE SENSE or MODE SELECT is answered: ILLEGAL REQUEST, with these additional sense codes (SPC-4,
-- additional sense code definitions).
use Rattle.sense_data.specs.declared.sense.Sense.{Sense}
use Rattle.sense_data.specs.Sense.{sense_of}

-- PARAMETER LIST LENGTH ERROR
abbrev pub parameter_list_length_error : Sense
parameter_list_length_error = sense_of 5 0x1A 0x00

-- INVALID FIELD IN CDB
abbrev pub invalid_field_in_cdb : Sense
invalid_field_in_cdb = sense_of 5 0x24 0x00

-- INVALID FIELD IN PARAMETER LIST
abbrev pub invalid_field_in_list : Sense
invalid_field_in_list = sense_of 5 0x26 0x00

-- SAVING PARAMETERS NOT SUPPORTED
abbrev pub saving_not_supported : Sense
saving_not_supported = sense_of 5 0x39 0x00
