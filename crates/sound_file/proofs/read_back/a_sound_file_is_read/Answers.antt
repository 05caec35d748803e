use Rattle.sound_file.proofs.ReadBack.{accepted_is, image_is, whole_length}
use Rattle.sound_file.proofs.read_back.a_sound_file_is_read.Goals as goal

pub returns-clause-accepted : goal.returns-clause-accepted
returns-clause-accepted c = accepted_is

pub returns-clause-image : goal.returns-clause-image
returns-clause-image c = image_is

pub returns-clause-size : goal.returns-clause-size
returns-clause-size c = whole_length
