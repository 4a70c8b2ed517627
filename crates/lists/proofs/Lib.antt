pub mod LimitLaws
mod RisingLaws
mod SpeechLaws
