-- What the proof of the second walk uses.
pub mod MeetingLaws
